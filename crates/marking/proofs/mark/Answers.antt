-- `marking::mark` meets its contract: the points are taken, and then the claim is tested.
use mathlib.Core.Path.{refl, sym}
use mathlib.Core.List.{[]}
use lib.Seq.{length-take-le}
use Rattle.std.proofs.lemmas.Result.{err_from_is_err_and}
use Rattle.model.specs.Maps.{empty_map}
use Rattle.model.specs.Answers.{marked_answer}
use Rattle.model.proofs.Answers.{answered}
use Rattle.marking.proofs.Marks.{refusal_answers, place_count, places_ranged, test_answers}
use Rattle.marking.proofs.mark.Goals as goal

pub take_points-requires : goal.take_points-requires
unfolding empty_map
take_points-requires c = refl

pub returns-in_err-take_points : goal.returns-in_err-take_points
unfolding marked_answer
returns-in_err-take_points c =
    let p = err_from_is_err_and c.from_residual.result c.from_residual.ensures.1 in
    rw (p.1, p.2) (answered _ (λ r. refl) (refusal_answers _ _ c.take_points.ensures _ c.in_err-take_points.was))

pub slice_bounds-places-end : goal.slice_bounds-places-end
slice_bounds-places-end c = place_count _ [] c.take_points.ensures c.in_ok-take_points.was

pub slice_bounds-taken-end : goal.slice_bounds-taken-end
slice_bounds-taken-end c =
    sym (length-take-le _ _ (place_count _ [] c.take_points.ensures c.in_ok-take_points.was))

pub invariant_of-taken : goal.invariant_of-taken
invariant_of-taken c = record { ranged = places_ranged _ [] c.take_points.ensures c.in_ok-take_points.was }

-- the claim was tested, of points that are all accepted
pub returns : goal.returns
unfolding marked_answer
returns c =
    answered _ (λ r. refl)
    (test_answers _ _ c.take_points.ensures c.in_ok-take_points.was _ c.is_outline.ensures)
