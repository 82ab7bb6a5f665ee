-- `reach::write_empty` meets its contract: the nine bytes are those of the empty map.
use mathlib.Core.Path.{◌≡◌, refl, sym, ap, ap₂, ◌∙◌}
use mathlib.Core.List.{List, [], ◌∷◌, ◌++◌, flatten}
use native.Mathlib.Omega.{arith}
use Prim.Native.Nat.{ℕ}
use lib.ListN.{length, drop}
use lib.Seq.{length-take-le}
use Rattle.finite.specs.Bounded.{table}
use Rattle.model.specs.Maps.{empty_map}
use Rattle.model.specs.Saved.{saved, saved_in, header, big_endian, block, notes_in, notes_length}
use Rattle.saved.proofs.Places.{length_saved}
use Rattle.replies.proofs.Serving.{short_list, with_room}
use Rattle.reach.proofs.write_empty.Goals as goal
use Rattle.reach.proofs.write_empty.Goals.{After-saved_length-length}

nine_bytes : 0 ∷ 0 ∷ 0 ∷ 5 ∷ 2 ∷ 0 ∷ 0 ∷ 4 ∷ 0 ∷ [] ≡ saved empty_map
unfolding saved_in header big_endian block notes_in notes_length empty_map table flatten
nine_bytes = refl

pub returns-then-out-length : goal.returns-then-out-length
unfolding empty_map
returns-then-out-length c = short_list _ _ (omega
    (arith, length_saved empty_map, c.saved_length-length.ensures, c.if-out-length.true))

-- the list has room for as many bytes as there are
nine : (c : After-saved_length-length) → c.saved_length-length.result ≡ 9
unfolding empty_map
nine c = c.saved_length-length.ensures ∙ sym (length_saved empty_map) ∙ ap length (sym nine_bytes)

pub copy_from_slice-requires : goal.copy_from_slice-requires
copy_from_slice-requires c =
    length-take-le c.saved_length-length.result c.args.out.now
    (omega (arith, c.if-out-length.false))
    ∙ nine (goal.at.copy_from_slice-requires c).After-saved_length-length

pub returns : goal.returns
unfolding empty_map
returns c =
    with_room (saved empty_map) _
    (omega (arith, length_saved empty_map, c.saved_length-length.ensures, c.if-out-length.false))
    (ap₂ (λ (s : List ℕ) (n : ℕ). s ++ drop n c.args.out.now) (c.copy_from_slice.ensures.after ∙ nine_bytes)
    (c.saved_length-length.ensures ∙ sym (length_saved empty_map)))
