-- What an entry promises, from what it found, in the order of this page: an entry that checks all its rules
-- first; an entry that writes a result, after one rule and the room for it. Each law is over the call. Then
-- what a caller has of a promise: a length that is answered lies within the list.
use mathlib.Core.Path.{◌≡◌, ap, ◌∙◌}
use mathlib.Core.Bool.{true, false}
use mathlib.Core.List.{List, [], ◌∷◌}
use Prim.Native.Nat.{ℕ, ◌≤◌, ◌<◌}
use native.Mathlib.Omega.{arith}
use borrow.Author.Tests.{lt-ltb, le-ltb}
use lib.ListN.{length, length-append}
use Rattle.std.specs.declared.result.Result.TheVariants.{Ok, Err}
use Rattle.finite.specs.Overwriting.{over}
use Rattle.model.specs.declared.Refusal.{Refusal}
use Rattle.model.specs.Refusals.{Rule}
use Rattle.model.specs.Answers.{refused, Call, outcome_by, Answered}
use Rattle.model.specs.Lent.{Wrote}
use Rattle.model.proofs.Answers.{answered, rule_applies, rule_passes, no_rule, unless_none}
use Rattle.model.proofs.Lent.{wrote_nothing, wrote_result}
use Rattle.engine.proofs.Rules.{refused_by, served_by, free_by, value_by, first_refuses, first_serves}

-- the rules of the call were checked
module _ {A : Type 0} {c : Call A} (same : (x : Refusal) → c.meaning (Err x) ≡ refused x) where
  pub checked_refused : {r : Refusal} → Err r ≡ outcome_by c.rules → Answered c (Err r)
  checked_refused e = answered c same (refused_by c.rules tt e Err (Ok c.value))

  pub checked_served : {a : A} → Ok tt ≡ outcome_by c.rules → a ≡ c.value → Answered c (Ok a)
  checked_served e is = answered c same (ap Ok is ∙ served_by c.rules tt e Err (Ok c.value))

-- a result that is written into a lent list, after one rule
module _ {A : Type 0} {rule : Rule} {result lent : List A} where
  pub rule_refused : {r : Refusal} → Err r ≡ outcome_by (rule ∷ []) →
      Wrote (rule ∷ []) result lent lent (Err r)
  rule_refused e = wrote_nothing _ _ _ _ (first_refuses Err (rule ∷ []) _ _ e)

  module _ (passed : Ok tt ≡ outcome_by (rule ∷ [])) where
    pub short_refused : length lent < length result →
        Wrote (rule ∷ []) result lent lent (Err Refusal.ShortList)
    short_refused l =
        wrote_nothing _ _ _ _
        (first_serves Err (rule ∷ []) _ _ passed
        (rule_applies Err _ _ _ (lt-ltb (length lent) (length result) l)))

    pub result_written : {n : ℕ} {after : List A} → n ≡ length result →
        length result ≤ length lent → after ≡ over result lent →
        Wrote (rule ∷ []) result lent after (Ok n)
    result_written size l holds =
        wrote_result _ _ _ _ _ size
        (first_serves Err (rule ∷ []) _ _ passed
        (rule_passes Err _ _ _ (le-ltb (length lent) (length result) l) (no_rule Err _)))
        holds

-- the same rule, as the code tested it
module _ (rule : Rule) where
  pub rule_found : rule.applies ≡ true → Err rule.refusal ≡ outcome_by (rule ∷ [])
  rule_found e = rule_applies Err rule [] (Ok tt) e

  pub rule_passed : rule.applies ≡ false → Ok tt ≡ outcome_by (rule ∷ [])
  rule_passed e = rule_passes Err rule [] (Ok tt) e (no_rule Err _)

-- a caller's list, where a length is answered
pub written_within : {A : Type 0} {rules : List Rule} {result before after : List A} {n : ℕ} →
    Wrote rules result before after (Ok n) → n ≤ length after
written_within {before = before} {n = n} wrote =
    let size : n ≡ length _ = value_by _ _ wrote.answer.equal in
    let held : _ ≡ over _ before =
    wrote.list ∙ unless_none (λ y. before) _ (free_by _ _ wrote.answer.equal) in
    omega (arith, size, simp length-append at (ap length held))
