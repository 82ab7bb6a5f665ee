-- The loop of `loading::reading::points_in`: each step fills the place of one point, and the places that no step has
-- filled hold 0, 0.
use Rattle.finite.specs.Loops.{FilledFront}
use Rattle.model.specs.Plane.{origin}
use Rattle.model.specs.Maps.{point_limit}
use Rattle.model.specs.Saved.{point_in_file, until}
use Rattle.loading.proofs.reading.points_in.Given as goal

abbrev pub invariant-loop-k : goal.invariant-loop-k
invariant-loop-k l =
    FilledFront (until l.count (point_in_file l.file) (λ j. origin)) origin point_limit l.count l.k l.points
