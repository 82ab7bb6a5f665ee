-- `reach::write_loaded_area` meets its contract: the file is loaded, and then its outline is measured.
use Rattle.model.specs.Saved.{load_call, map_in}
use Rattle.measures.specs.Areas.{sound_area_call}
use Rattle.deciding.proofs.Verdicts.{passed_up}
use Rattle.replies.specs.Replies.{reply, values_of}
use Rattle.replies.proofs.OpenedFiles.{loads, opened_sound, opened_map}
use Rattle.replies.proofs.Serving.{refused_before, served_after, served_at}
use Rattle.reach.proofs.write_loaded_area.Goals as goal

pub invariant_of-sound : goal.invariant_of-sound
invariant_of-sound c = record { shaped = opened_sound (loads c.in_ok-map.ensures) }

pub returns-in_err-map : goal.returns-in_err-map
returns-in_err-map c = let s = c.args in
    rw (passed_up _ _ c.from_residual.ensures.1)
    (refused_before (load_call s.map.now).rules (map_in s.map.now)
    (reply values_of (sound_area_call (map_in s.map.now) s.place)) _ (loads c.in_err-map.ensures).equal)

pub returns : goal.returns
returns c = let s = c.args in
    let o = loads c.in_ok-map.ensures in
    served_after (load_call s.map.now).rules (map_in s.map.now)
    (reply values_of (sound_area_call (map_in s.map.now) s.place)) _ o.equal
    (served_at (λ m. reply values_of (sound_area_call m s.place)) (opened_map o) c.write_area.ensures)
