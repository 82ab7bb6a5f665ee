-- `reach::write_corners_spelt` meets its contract: the corners are read where there is room for
-- them and for their number, which is then written.
use borrow.Author.Tests.{lt-ltb, le-ltb, le-leb, lt-leb}
use mathlib.Core.Logic.{⊎_elim}
use mathlib.Core.Path.{◌≡◌, sym, ap, ◌∙◌}
use mathlib.Core.Bool.{Bool, not, ◌||◌}
use mathlib.Core.List.{List, [], ◌∷◌}
use Prim.Native.Nat.{ℕ, ◌≤◌, ◌<◌}
use lib.Dec.{leb, ltb}
use lib.ListN.{length}
use Rattle.finite.specs.Bounded.{lt_or_ge}
use Rattle.model.specs.Answers.{written_answer}
use Rattle.model.specs.Lent.{is_short}
use Rattle.model.specs.Outlines.{coordinates, corners_spelt, outline_rules}
use Rattle.deciding.proofs.Verdicts.{passed_up}
use Rattle.replies.proofs.Reported.{by_refused, by_written, length_room}
use Rattle.reach.proofs.write_corners_spelt.Goals as goal

no_place : (n : ℕ) → ltb n 1 ≡ not (leb 1 n)
no_place n =
    ⊎_elim
    (λ (l : n < 1). lt-ltb n 1 l ∙ sym (ap not (lt-leb 1 n l)))
    (λ (l : 1 ≤ n). le-ltb n 1 l ∙ sym (ap not (le-leb 1 n l)))
    (lt_or_ge n 1)

-- what the code asks for is the room of both lists
same : {A : Type 0} (result out : List A) (count : List ℕ) →
    (is_short result out || is_short (length result ∷ []) count)
    ≡ (is_short result out || not (leb 1 (length count)))
same result out count = ap (λ (b : Bool). is_short result out || b) (no_place (length count))

pub bounds-count-0 : goal.bounds-count-0
bounds-count-0 c = let s = c.args in
    let result = coordinates (corners_spelt s.text.now) in
    length_room (outline_rules s.text.now) result s.out.now s.count.now
    (same result s.out.now s.count.now) c.in_ok-length.ensures

pub returns-in_err-length : goal.returns-in_err-length
unfolding written_answer
returns-in_err-length c = let s = c.args in
    let result = coordinates (corners_spelt s.text.now) in
    rw (passed_up _ _ c.from_residual.ensures.1)
    (by_refused (outline_rules s.text.now) result s.out.now s.count.now (same result s.out.now s.count.now)
    c.in_err-length.ensures)

pub returns : goal.returns
unfolding written_answer
returns c = let s = c.args in
    let result = coordinates (corners_spelt s.text.now) in
    by_written (outline_rules s.text.now) result s.out.now s.count.now (same result s.out.now s.count.now)
    c.in_ok-length.ensures
