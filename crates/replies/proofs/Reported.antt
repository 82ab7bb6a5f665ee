-- A result that is written into one lent list, and its length into another, in the order of this
-- page: no room for the length; a result that was written where there is room for both, refused or
-- written; the same of a result that an entry wrote into a list of its own.
use mathlib.Core.Path.{◌≡◌, refl, sym, ap, ◌∙◌}
use mathlib.Core.Logic.{⊎_elim}
use mathlib.Core.Bool.{Bool, true, cond, ◌||◌, or-true, or-false}
use mathlib.Core.List.{List, [], ◌∷◌, ◌++◌}
use Prim.Native.Nat.{ℕ, ◌≤◌, ◌<◌}
use borrow.Author.Tests.{lt-ltb, le-ltb}
use lib.Dec.{T}
use lib.ListN.{length, set}
use Rattle.std.specs.declared.result.Result.TheVariants.{Ok, Err}
use Rattle.finite.specs.Tests.{either_way, of_true}
use Rattle.finite.specs.Bounded.{lt_or_ge}
use Rattle.finite.specs.Overwriting.{over}
use Rattle.model.specs.declared.Refusal.{Refusal}
use Rattle.model.specs.Refusals.{number, NoneApplies, nor, Rule, ◌when◌, unless}
use Rattle.model.specs.Lent.{is_short, and_short, lent_after, Wrote, WroteBy}
use Rattle.model.proofs.Answers.{unless_append}
use Rattle.engine.proofs.Rules.{refused_by, free_by, value_by, served_by}
use Rattle.replies.specs.Served.{number_by, ServedBoth}
use Rattle.replies.proofs.Serving.{stored, room_serves}

-- every refusal leaves the same
unless_same : {A : Type 0} (rules : List Rule) (a : A) → unless (λ r. a) rules a ≡ a
unfolding unless
unless_same [] a = refl
unless_same (rule ∷ rules) a =
    ap (cond rule.applies a) (unless_same rules a) ∙ either_way rule.applies a

-- where no rule applies, the last does not
last_passes : (rules : List Rule) (rule : Rule) → NoneApplies (rules ++ rule ∷ []) → ¬ T rule.applies
last_passes [] rule (nor n rest) = n
last_passes (first ∷ rules) rule (nor n rest) = last_passes rules rule rest

module _ {A : Type 0} (rules : List Rule) (u before : List A) (before' : List ℕ) where
  abbrev v : List ℕ
  v = length u ∷ []

  -- one of the lists is too short
  abbrev either_short : Bool
  either_short = is_short u before || is_short v before'

  -- the promise, by whether one of the lists is too short
  both_by : (short : Bool) → either_short ≡ short → {after : List A} {after' : List ℕ} {k : ℕ} →
      k ≡ number_by (and_short rules short) → after ≡ lent_after (and_short rules short) u before →
      after' ≡ lent_after (and_short rules short) v before' →
      ServedBoth rules u v before after before' after' k
  both_by short e n l l' =
      record {
        code = n ∙ ap (λ (b : Bool). number_by (and_short rules b)) (sym e);
        list = l ∙ ap (λ (b : Bool). lent_after (and_short rules b) u before) (sym e);
        list' = l' ∙ ap (λ (b : Bool). lent_after (and_short rules b) v before') (sym e);
      }

  unwritten : {B : Type 0} (w lent : List B) → lent ≡ lent_after (and_short rules true) w lent
  unfolding unless
  unwritten w lent =
      sym (unless_append (λ r. lent) rules ((Refusal.ShortList when true) ∷ [])
      (over w lent)
      ∙ unless_same rules lent)

  pub no_room_for_length : {k : ℕ} → length before' < 1 → k ≡ number_by (and_short rules true) →
      ServedBoth rules u v before before before' before' k
  no_room_for_length l n =
      both_by true
      (ap (λ (b : Bool). is_short u before || b) (lt-ltb (length before') 1 l) ∙ or-true
      (is_short u before)) n
      (unwritten u before) (unwritten v before')

  -- a result that was written where there is room
  module _ {short : Bool} (same : either_short ≡ short) {after : List A} where
    pub by_refused : {r : Refusal} → WroteBy rules short u before after (Err r) →
        ServedBoth rules u v before after before' before' (number r)
    by_refused p =
        both_by short same
        (refused_by _ _ p.answer number 0)
        p.list
        (refused_by _ _ p.answer (λ x. before') (over v before'))

    module _ {n : ℕ} (p : WroteBy rules short u before after (Ok n)) where
      -- the last rule does not apply, so there is room for the length
      pub length_room : 1 ≤ length before'
      length_room =
          ⊎_elim
          (λ (l : length before' < 1).
          let is_so : short ≡ true =
          sym same ∙ ap (λ (b : Bool). is_short u before || b) (lt-ltb (length before') 1 l) ∙ or-true (is_short u before) in
          absurd (last_passes rules _ (free_by _ _ p.answer) (of_true short is_so)))
          (λ (l : 1 ≤ length before'). l)
          (lt_or_ge (length before') 1)

      pub by_written : ServedBoth rules u v before after before' (set before' 0 n) 0
      by_written =
          both_by short same
          (served_by _ _ p.answer number 0)
          p.list
          (ap (set before' 0) (value_by _ _ p.answer)
          ∙ (room_serves length_room (stored v before' length_room)).1
          ∙ served_by _ _ p.answer (λ x. before') (over v before'))

  -- .. in a list of its own, where there is room for the length
  module _ (room : 1 ≤ length before') where
    enough : either_short ≡ is_short u before
    enough =
        ap (λ (b : Bool). is_short u before || b) (le-ltb (length before') 1 room) ∙ or-false
        (is_short u before)

    pub result_refused : {after : List A} {r : Refusal} → Wrote rules u before after (Err r) →
        ServedBoth rules u v before after before' before' (number r)
    result_refused p = by_refused enough (record { answer = p.answer.equal; list = p.list })

    pub result_written : {after : List A} {n : ℕ} → Wrote rules u before after (Ok n) →
        ServedBoth rules u v before after before' (set before' 0 n) 0
    result_written p = by_written enough (record { answer = p.answer.equal; list = p.list })
