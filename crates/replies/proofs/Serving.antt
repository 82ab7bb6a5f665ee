-- The laws of what the exported functions promise, in the order of this page: rules that stand in
-- two parts; values without a rule, written or not; rules that are checked before; two lists, and the room
-- of both; equal arguments, and the point of two coordinates; what is written of an answer.
use mathlib.Core.Path.{◌≡◌, refl, sym, ap, ap₂, subst, ◌∙◌}
use mathlib.Core.Bool.{Bool, true, false, ◌||◌, or-true}
use mathlib.Core.List.{List, [], ◌∷◌, ◌++◌, append_assoc, append-nil}
use Prim.Native.Nat.{ℕ, ◌≤◌, ◌<◌}
use native.Mathlib.Omega.{arith}
use mir.Syntax.{w64}
use mir.Val.{SFits, to_z, of_z}
use mir.ValLaws.{to_z-of_z}
use lib.Dec.{ltb}
use lib.IntN.{ℤ}
use lib.ListN.{length, set}
use lib.Seq.{sets}
use borrow.Author.Tests.{lt-ltb, le-ltb, ltb-false}
use Rattle.std.specs.declared.result.Result.{Result}
use Rattle.std.specs.declared.result.Result.TheVariants.{Ok, Err}
use Rattle.finite.specs.Overwriting.{over, over_front, over_stores}
use Rattle.finite.specs.Tests.{of_true}
use Rattle.model.specs.declared.Refusal.{Refusal}
use Rattle.model.specs.declared.Point.{Point}
use Rattle.model.specs.Plane.{at}
use Rattle.model.specs.Refusals.{number, Rule, ◌when◌, unless, NoneApplies, none, nor}
use Rattle.model.specs.Answers.{Answer, Call, answer_of, outcome_by}
use Rattle.model.specs.Lent.{is_short}
use Rattle.model.proofs.Answers.{unless_append}
use Rattle.engine.proofs.Rules.{refused_by, free_by, value_by, served_by}
use Rattle.replies.specs.Served.{Reply, only, Served, ServedBoth}
use Rattle.replies.specs.Replies.{meaning_of, reply}

-- ---- rules in two parts

-- the first part is checked before, and number 10 comes after both
module _ {A B : Type 0} (f : Refusal → A) (rules more last : List Rule) (v : B) (a : A) where
  three_parts : unless f rules (unless f (more ++ last) a) ≡ unless f ((rules ++ more) ++ last) a
  three_parts =
      sym (unless_append f rules (more ++ last) a)
      ∙ ap (λ (rs : List Rule). unless f rs a) (sym (append_assoc rules more last))

  pub first_refuses : {r : Refusal} → Err r ≡ unless Err rules (Ok v) →
      f r ≡ unless f ((rules ++ more) ++ last) a
  first_refuses e = refused_by rules v e f (unless f (more ++ last) a) ∙ three_parts

  pub first_serves : {b : B} {x : A} → Ok b ≡ unless Err rules (Ok v) → x ≡ unless f (more ++ last) a →
      x ≡ unless f ((rules ++ more) ++ last) a
  first_serves e is = is ∙ served_by rules v e f (unless f (more ++ last) a) ∙ three_parts

-- ---- one list

module _ {A : Type 0} (values before : List A) where
  -- too short: nothing is written
  pub short_list : length before < length values →
      Served (only values) before before (number Refusal.ShortList)
  unfolding unless
  short_list l =
      let e = lt-ltb (length before) (length values) l in record { code = rw e; list = rw e }

  -- with room: the values, and what stood past them
  pub with_room : {after : List A} → length values ≤ length before →
      after ≡ over values before → Served (only values) before after 0
  unfolding unless
  with_room l w =
      let e = le-ltb (length before) (length values) l in record { code = rw e; list = rw e w }

-- values that were stored one by one
pub stored : {A : Type 0} (values before : List A) → length values ≤ length before →
    Served (only values) before (sets before 0 values) 0
stored values before l =
    with_room values before l
    (sym (over_stores before 0 values (omega arith)) ∙ over_front before values)

-- rules that were checked before, in a list of their own
module _ {A B : Type 0} (rules : List Rule) (v : B) (q : Reply A) (before : List A) where
  abbrev both : Reply A
  both = record { rules = rules ++ q.rules; values = q.values }

  abbrev last : List Rule
  last = (Refusal.ShortList when is_short q.values before) ∷ []

  pub refused_before : {r : Refusal} → Err r ≡ unless Err rules (Ok v) → Served both before before (number r)
  refused_before e =
      record {
        code = first_refuses number rules q.rules last v 0 e;
        list = first_refuses (λ x. before) rules q.rules last v (over q.values before) e;
      }

  pub served_after : {b : B} {after : List A} {k : ℕ} → Ok b ≡ unless Err rules (Ok v) →
      Served q before after k → Served both before after k
  served_after e s =
      record {
        code = first_serves number rules q.rules last v 0 e s.code;
        list = first_serves (λ x. before) rules q.rules last v (over q.values before) e s.list;
      }

-- the same values by another name
pub served_as : {A : Type 0} {u v before after : List A} {k : ℕ} → u ≡ v →
    Served (only u) before after k →
    Served (only v) before after k
served_as {A} {u} {v} {before} {after} {k} e s =
    subst (λ (w : List A). Served (only w) before after k) e s

-- what a list with room has been left as
pub room_serves : {A : Type 0} {values before after : List A} {k : ℕ} →
    length values ≤ length before →
    Served (only values) before after k → (k ≡ 0) × (after ≡ over values before)
unfolding unless
room_serves {A} {values} {before} l s =
    let e = le-ltb (length before) (length values) l in (rw e at s.code, rw e at s.list)

-- ---- two lists

-- the rule of two lists that are to have room for n and for k members
abbrev pub room_rule : {A B : Type 0} → ℕ → ℕ → List A → List B → List Rule
room_rule n k before before' = (Refusal.ShortList when (ltb (length before) n || ltb (length before') k)) ∷ []

module _ {A B : Type 0} (u : List A) (v : List B) (before : List A) (before' : List B) where
  abbrev either : Bool
  either = is_short u before || is_short v before'

  module _ {n k : ℕ} (size : n ≡ length u) (size' : k ≡ length v) where
    by_sizes : {x : Result (Unit {0}) Refusal} → x ≡ outcome_by (room_rule n k before before') →
        x ≡ outcome_by (room_rule (length u) (length v) before before')
    by_sizes e = rw (size, size') at e

    -- one of them is too short: nothing is written
    pub no_room : {r : Refusal} → Err r ≡ outcome_by (room_rule n k before before') →
        ServedBoth [] u v before before before' before' (number r)
    no_room e =
        record {
          code = refused_by _ tt (by_sizes e) number 0;
          list = refused_by _ tt (by_sizes e) (λ x. before) (over u before);
          list' = refused_by _ tt (by_sizes e) (λ x. before') (over v before');
        }

    -- both have room
    module _ (e : Ok tt ≡ outcome_by (room_rule n k before before')) where
      pub first_room : length u ≤ length before
      first_room = go (ltb (length before) (length u)) refl (free_by _ tt (by_sizes e))
        where
          go : (b : Bool) → ltb (length before) (length u) ≡ b →
              NoneApplies ((Refusal.ShortList when (b || is_short v before')) ∷ []) → length u ≤ length before
          go true is (nor m none) = absurd (m (of_true _ refl))
          go false is free = ltb-false _ _ is

      pub second_room : length v ≤ length before'
      second_room = go (ltb (length before') (length v)) refl (free_by _ tt (by_sizes e))
        where
          go : (b : Bool) → ltb (length before') (length v) ≡ b →
              NoneApplies ((Refusal.ShortList when (is_short u before || b)) ∷ []) → length v ≤ length before'
          go true is (nor m none) = absurd (m (of_true _ (or-true (is_short u before))))
          go false is free = ltb-false _ _ is

      pub both_written : {after : List A} {after' : List B} {c : ℕ} → c ≡ 0 → after ≡ over u before →
          after' ≡ over v before' → ServedBoth [] u v before after before' after' c
      both_written zero w w' =
          record {
            code = zero ∙ served_by _ tt (by_sizes e) number 0;
            list = w ∙ served_by _ tt (by_sizes e) (λ x. before) (over u before);
            list' = w' ∙ served_by _ tt (by_sizes e) (λ x. before') (over v before');
          }

-- a result, and how long it is
module _ {A : Type 0} (u before : List A) (before' : List ℕ) {n : ℕ} (size : n ≡ length u) where
  pub not_counted : {r : Refusal} → Err r ≡ outcome_by (room_rule n 1 before before') →
      ServedBoth [] u (length u ∷ []) before before before' before' (number r)
  not_counted = no_room u (length u ∷ []) before before' size refl

  module _ (e : Ok tt ≡ outcome_by (room_rule n 1 before before')) where
    pub result_room : length u ≤ length before
    result_room = first_room u (length u ∷ []) before before' size refl e

    pub length_place : 1 ≤ length before'
    length_place = second_room u (length u ∷ []) before before' size refl e

    pub counted : {after : List A} → after ≡ over u before →
        ServedBoth [] u (length u ∷ []) before after before' (set before' 0 n) 0
    counted w =
        both_written u (length u ∷ []) before before' size refl e refl w
        (ap (set before' 0) size ∙ (room_serves length_place (stored (length u ∷ []) before' length_place)).1)

module _ {A B C : Type 0} (rules more : List Rule) (w : C) (u : List A) (v : List B) (before : List A)
    (before' : List B) where
  abbrev last_both : List Rule
  last_both = (Refusal.ShortList when (is_short u before || is_short v before')) ∷ []

  pub both_refused_before : {r : Refusal} → Err r ≡ unless Err rules (Ok w) →
      ServedBoth (rules ++ more) u v before before before' before' (number r)
  both_refused_before e =
      record {
        code = first_refuses number rules more last_both w 0 e;
        list = first_refuses (λ x. before) rules more last_both w (over u before) e;
        list' = first_refuses (λ x. before') rules more last_both w (over v before') e;
      }

  pub both_served_after : {b : C} {after : List A} {after' : List B} {k : ℕ} →
      Ok b ≡ unless Err rules (Ok w) →
      ServedBoth more u v before after before' after' k → ServedBoth
      (rules ++ more) u v before after before' after' k
  both_served_after e s =
      record {
        code = first_serves number rules more last_both w 0 e s.code;
        list = first_serves (λ x. before) rules more last_both w (over u before) e s.list;
        list' = first_serves (λ x. before') rules more last_both w (over v before') e s.list';
      }

-- ---- equal arguments

pub served_at : {A C : Type 0} (q : C → Reply A) {x y : C} {before after : List A} {k : ℕ} → x ≡ y →
    Served (q x) before after k → Served (q y) before after k
served_at {A} {C} q {x} {y} {before} {after} {k} e s = subst
    (λ (z : C). Served (q z) before after k) e s

pub both_at : {A B C : Type 0} (rules : C → List Rule) (u : C → List A) (v : C → List B) {x y : C}
    {before after : List A} {before' after' : List B} {k : ℕ} → x ≡ y →
    ServedBoth (rules x) (u x) (v x) before after before' after' k →
    ServedBoth (rules y) (u y) (v y) before after before' after' k
both_at {A} {B} {C} rules u v {x} {y} {before} {after} {before'} {after'} {k} e s =
    subst (λ (z : C). ServedBoth (rules z) (u z) (v z) before after before' after' k) e s

-- the point that was made of two coordinates
pub point_made : {p : Point} (x y : ℤ) → SFits w64 x → SFits w64 y →
    p ≡ at (to_z w64 (of_z w64 x)) (to_z w64 (of_z w64 y)) → p ≡ at x y
point_made x y f g e = e ∙ ap₂ at (to_z-of_z w64 x f) (to_z-of_z w64 y g)

-- ---- what is written of the answer of a call

module _ {A B : Type 0} (tell : Answer → List B) (c : Call A) (before : List B) where
  no_more : {after : List B} {k : ℕ} →
      Served (both c.rules c.value (only (tell (meaning_of c))) before) before after k →
      Served (reply tell c) before after k
  no_more {after} {k} s =
      subst (λ (rules : List Rule). Served (record { rules = rules; values = tell (meaning_of c) }) before after k)
      (append-nil c.rules) s

  pub answer_refused : {r : Refusal} → Err r ≡ answer_of c → Served (reply tell c) before before (number r)
  answer_refused e = no_more (refused_before c.rules c.value (only (tell (meaning_of c))) before e)

  pub answer_written : {a : A} {after : List B} {k : ℕ} → Ok a ≡ answer_of c →
      Served (only (tell (c.meaning (Ok a)))) before after k → Served (reply tell c) before after k
  answer_written e w =
      no_more
      (served_after c.rules c.value (only (tell (meaning_of c))) before e
      (served_as (ap (λ (x : A). tell (c.meaning (Ok x))) (value_by c.rules c.value e)) w))
