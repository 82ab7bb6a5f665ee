-- `orbits::compose` meets its contract. The loop's invariant: the places passed hold the links of f and then
-- g, and so do those from n on.
use Rattle.finite.specs.Loops.{FilledFront}
use Rattle.orbits.specs.Sets.{dart_limit}
use Rattle.orbits.specs.Links.{link_of, ◌then◌}
use Rattle.orbits.proofs.compose.Given as goal

abbrev pub invariant-loop-d : goal.invariant-loop-d
invariant-loop-d l = FilledFront (link_of l.f then link_of l.g) 0 dart_limit l.n l.d l.both
