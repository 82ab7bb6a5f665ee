-- `replies::writing::write_darts` meets its contract: the room is checked, then the words are
-- written, and then the size.
use mathlib.Core.Path.{◌≡◌, sym, ap, ◌∙◌}
use mathlib.Core.List.{List, [], ◌∷◌, ◌++◌}
use Prim.Native.Nat.{ℕ}
use native.Mathlib.Omega.{arith}
use lib.ListN.{length, set, drop, length-append}
use Rattle.finite.specs.Overwriting.{over_more}
use Rattle.orbits.specs.declared.DartSet.{DartSet}
use Rattle.replies.proofs.Serving.{short_list, with_room}
use Rattle.replies.proofs.writing.write_darts.Goals as goal

sized : (s : DartSet) → length s.words ≡ 16 → length (s.words ++ s.size ∷ []) ≡ 17
sized s e = omega (arith, e, length-append s.words (s.size ∷ []))

pub returns-then-out-lt17 : goal.returns-then-out-lt17
returns-then-out-lt17 c =
    let s = c.args.orbit.now in
    let w : length s.words ≡ 16 = omega arith in
    short_list (s.words ++ s.size ∷ []) _ (omega (arith, sized s w, c.if-out-lt17.true))

pub returns : goal.returns
returns c =
    let s = c.args.orbit.now in
    let w : length s.words ≡ 16 = omega arith in
    with_room (s.words ++ s.size ∷ []) _ (omega (arith, sized s w, c.if-out-lt17.false))
    (ap (λ (l : List ℕ). set (l ++ drop 16 c.args.out.now) 16 s.size) c.copy_from_slice.ensures.after
    ∙ ap (λ (n : ℕ). set (s.words ++ drop n c.args.out.now) n s.size) (sym w)
    ∙ over_more s.words c.args.out.now s.size (omega (arith, w, c.if-out-lt17.false)))
