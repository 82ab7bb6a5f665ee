-- `saved::write_map` meets its contract: the notes over what follows all else.
use borrow.Author.Rules.{rules}
use mathlib.Core.Path.{sym, ap, ◌∙◌}
use mathlib.Core.List.{List, ◌++◌}
use Prim.Native.Nat.{ℕ, ◌+◌, ◌*◌, ◌≤◌}
use native.Mathlib.Omega.{arith}
use lib.ListN.{length, length-take, length-drop}
use Rattle.finite.specs.Overwriting.{over}
use Rattle.model.specs.Saved.{notes_place, block, packed_note, saved_in}
use Rattle.layout.proofs.Blocks.{piece_written}
use Rattle.saved.specs.Fields.{unnoted}
use Rattle.saved.proofs.Places.{length_unnoted, noted_length, notes_block}
use Rattle.saved.proofs.write_map.Goals as goal
use Rattle.saved.proofs.write_map.Goals.{After-notes_place-start}

-- the notes fit behind all else
long : (c : After-notes_place-start) →
    notes_place c.args.sound.map.now.count + 5 * c.noted_in-noted.result ≤ length c.args.lent.now
long c =
    omega (
      arith,
      c.requires,
      c.noted_in-noted.ensures,
      noted_length c.args.version c.args.sound.map.now.count,
    )

pub write_block-requires-clause-room : goal.write_block-requires-clause-room
write_block-requires-clause-room c =
    let l = long (goal.at.write_block-requires-clause-room c).After-notes_place-start in
    simp (length-take, length-drop) (omega (arith, c.notes_place-start.ensures))

pub returns : goal.returns
unfolding saved_in unnoted
returns c =
    let m = c.args.sound.map.now in
    let v = c.args.version in
    let before = c.args.lent.now in
    let l = long (goal.at.returns c).After-notes_place-start in
    let noted = c.noted_in-noted.result in
    piece_written (unnoted v m) (block noted 5 (packed_note m)) before c.notes_place-start.result _ _
    c.write_unnoted.ensures
    (c.notes_place-start.ensures ∙ sym (length_unnoted v m))
    (omega (arith, c.notes_place-start.ensures))
    (c.write_block.ensures (packed_note m) (λ k r l p. search rules))
    ∙ ap (λ (s : List ℕ). over (unnoted v m ++ s) before)
    (ap (λ (n : ℕ). block n 5 (packed_note m)) c.noted_in-noted.ensures ∙ sym (notes_block v m))
