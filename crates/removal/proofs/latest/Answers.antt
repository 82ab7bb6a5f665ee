use mathlib.Core.Path.{◌≡◌, sym, ap, subst, ◌∙◌}
use mathlib.Core.Bool.{Bool}
use mathlib.Core.List.{List}
use Prim.Native.Nat.{ℕ, suc, ◌-◌, ◌<◌}
use native.Mathlib.Omega.{arith}
use lib.Dec.{T}
use lib.ListN.{length, get_or}
use Rattle.finite.specs.Tests.{of_true}
use Rattle.finite.specs.ListLaws.{get_d_any}
use Rattle.model.specs.declared.Note.{Note}
use Rattle.model.specs.Maps.{note_in, no_note}
use Rattle.removal.specs.Unlinking.{is_corner, latest}
use Rattle.removal.proofs.References.{latest_corner, latest_earlier}
use Rattle.removal.proofs.latest.Goals as goal

-- what is read of a place is what is noted there
module _ (notes : List Note) (k : ℕ) (h : k < length notes) {found : Bool} (d : Note)
    (asked : found ≡ is_corner (get_or notes k d).arrival) where
  corner_is : found ≡ is_corner (note_in notes k).arrival
  corner_is = asked ∙ ap (λ (o : Note). is_corner o.arrival) (get_d_any notes k d no_note h)

pub returns-then-is_corner : goal.returns-then-is_corner
returns-then-is_corner c =
    let notes = c.args.notes.now in
    let more : suc (c.loop-j.j - 1) ≡ c.loop-j.j = omega arith in
    latest_corner notes (c.loop-j.j - 1)
    (of_true _ (sym (corner_is notes (c.loop-j.j - 1) (omega arith) _ c.is_corner.ensures) ∙ c.if-is_corner.true))
    ∙ ap (latest notes) more
    ∙ c.loop-j.invariant

pub loop-j-preserved : goal.loop-j-preserved
loop-j-preserved c =
    let notes = c.args.notes.now in
    let more : suc (c.loop-j.j - 1) ≡ c.loop-j.j = omega arith in
    latest_earlier notes (c.loop-j.j - 1)
    (λ t.
    subst T (sym (corner_is notes (c.loop-j.j - 1) (omega arith) _ c.is_corner.ensures) ∙ c.if-is_corner.false) t)
    ∙ ap (latest notes) more
    ∙ c.loop-j.invariant

pub returns : goal.returns
unfolding latest
returns c =
    let done : c.loop-j.j ≡ 0 = omega arith in
    sym (ap (latest c.args.notes.now) done) ∙ c.loop-j.invariant
