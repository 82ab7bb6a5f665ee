-- `replies::writing::write_admitted` meets its contract: the point's rules, and then what is
-- written.
use mathlib.Core.Path.{◌≡◌, sym, subst}
use mathlib.Core.List.{[]}
use Rattle.std.specs.declared.result.Result.TheVariants.{Ok}
use Rattle.model.specs.declared.Point.{Point}
use Rattle.model.specs.declared.Map.{Map}
use Rattle.model.specs.declared.Offered.{Offered}
use Rattle.model.specs.Answers.{arrival_answer}
use Rattle.model.specs.Shape.{Shaped}
use Rattle.model.specs.Arrival.{admission_rules, admitted}
use Rattle.model.specs.Saved.{saved}
use Rattle.hull.proofs.Outcomes.{accepted_by}
use Rattle.hull.proofs.Arrivals.{arrive_sound}
use Rattle.deciding.proofs.Verdicts.{passed_up}
use Rattle.engine.proofs.Rules.{free_by, value_by}
use Rattle.replies.specs.Replies.{arrival_told}
use Rattle.replies.proofs.Serving.{both_refused_before, both_served_after, both_at}
use Rattle.replies.proofs.writing.write_admitted.Goals as goal

-- the map after an accepted offer to a sound map is sound
shaped_after : (m : Map) (p : Point) → Shaped m → {o : Offered} → Ok o ≡ admitted m p → Shaped o.map
unfolding admitted
shaped_after m p s e =
    subst (λ (o : Offered). Shaped o.map) (sym (value_by _ _ e))
    (arrive_sound (accepted_by p s (free_by _ _ e)))

pub invariant_of-grown : goal.invariant_of-grown
invariant_of-grown c =
    record { shaped = shaped_after c.args.sound.map.now c.args.p c.args.sound.shaped c.in_ok-offered.ensures }

pub returns-in_err-offered : goal.returns-in_err-offered
unfolding admitted
returns-in_err-offered c =
    rw (passed_up _ _ c.from_residual.ensures.1)
    (both_refused_before (admission_rules c.args.sound.map.now c.args.p) [] _ _ _ _ _ c.in_err-offered.ensures)

pub returns : goal.returns
unfolding admitted
returns c =
    let s = c.args in
    let e = c.in_ok-offered.ensures in
    both_served_after (admission_rules s.sound.map.now s.p) [] _ _ _ _ _ e
    (both_at (λ o. []) (λ (o : Offered). saved o.map)
    (λ (o : Offered). arrival_told (arrival_answer (Ok o.arrival)))
    (value_by _ _ e) c.write_offered.ensures)
