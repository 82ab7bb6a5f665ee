-- `reach::write_offer` meets its contract: the file is loaded, and then the point is offered.
use Rattle.std.specs.declared.result.Result.TheVariants.{Ok}
use Rattle.model.specs.declared.Map.{Map}
use Rattle.model.specs.Answers.{arrival_answer, arrival_of}
use Rattle.model.specs.Arrival.{admission_rules, arrive}
use Rattle.model.specs.Saved.{load_call, map_in, saved}
use Rattle.deciding.proofs.Verdicts.{passed_up}
use Rattle.replies.specs.Replies.{arrival_told}
use Rattle.replies.proofs.OpenedFiles.{loads, opened_sound, opened_map}
use Rattle.replies.proofs.Serving.{both_refused_before, both_served_after, both_at}
use Rattle.reach.proofs.write_offer.Goals as goal

pub invariant_of-sound : goal.invariant_of-sound
invariant_of-sound c = record { shaped = opened_sound (loads c.in_ok-map.ensures) }

pub returns-in_err-map : goal.returns-in_err-map
returns-in_err-map c = let s = c.args in
    rw (passed_up _ _ c.from_residual.ensures.1)
    (both_refused_before (load_call s.map.now).rules (admission_rules (map_in s.map.now) s.p) _ _ _ _ _
    (loads c.in_err-map.ensures).equal)

pub returns : goal.returns
unfolding arrival_of
returns c = let s = c.args in
    let o = loads c.in_ok-map.ensures in
    let p = s.p in
    both_served_after (load_call s.map.now).rules (admission_rules (map_in s.map.now) p) _ _ _ _ _ o.equal
    (both_at (λ m. admission_rules m p) (λ m. saved (arrive m p).map)
    (λ (m : Map). arrival_told (arrival_answer (Ok (arrive m p).arrival)))
    (opened_map o) c.write_admitted.ensures)
