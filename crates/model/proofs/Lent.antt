-- What is promised of a lent list, in the order of this page: by an entry, from the equation of its answer, where
-- it is refused, and where the result is written; by an inner function that is told whether there is room, where a
-- rule applies, where there is none, and where the result is written; by an entry that calls such a function.
use mathlib.Core.Path.{◌≡◌, refl, sym, ap, ◌∙◌}
use mathlib.Core.Bool.{Bool, true, false}
use mathlib.Core.List.{List, [], ◌∷◌, ◌++◌}
use Prim.Native.Nat.{ℕ}
use lib.ListN.{length}
use Rattle.std.specs.declared.result.Result.{Result}
use Rattle.std.specs.declared.result.Result.TheVariants.{Ok, Err}
use Rattle.finite.specs.Overwriting.{over}
use Rattle.model.specs.declared.Refusal.{Refusal}
use Rattle.model.specs.Refusals.{Rule, ◌when◌, unless}
use Rattle.model.specs.Answers.{Call, answer_of, outcome_by, written_answer}
use Rattle.model.specs.Lent.{is_short, and_short, writing, lent_after, Wrote, WroteBy}
use Rattle.model.proofs.Answers.{outcome_refuses, outcome_serves, unless_append, unless_made, answered}

module _ {A : Type 0} (rules : List Rule) (result lent : List A) where
  abbrev call_of : Call ℕ
  call_of = writing rules result lent

  -- the list by the answer
  abbrev list_by : Result ℕ Refusal → List A
  list_by (Ok n) = over result lent
  list_by (Err r) = lent

  list_left : {w : Result ℕ Refusal} → w ≡ answer_of call_of →
      list_by w ≡ lent_after call_of.rules result lent
  list_left e =
      ap list_by e
      ∙ unless_made list_by Err (λ r. lent) (λ r. refl) call_of.rules
      (Ok call_of.value)

  pub wrote_nothing : (r : Refusal) → Err r ≡ answer_of call_of →
      Wrote rules result lent lent (Err r)
  unfolding written_answer
  wrote_nothing r e = record { answer = answered call_of (λ x. refl) e; list = list_left e }

  pub wrote_result : (n : ℕ) (after : List A) → n ≡ length result →
      Ok (length result) ≡ answer_of call_of → after ≡ over result lent →
      Wrote rules result lent after (Ok n)
  unfolding written_answer
  wrote_result n after size e holds =
      record {
        answer = answered call_of (λ x. refl) (ap Ok size ∙ e);
        list = holds ∙ list_left e;
      }

-- ---- a result that is written where there is room

module _ {A : Type 0} (rules : List Rule) (short : Bool) (result lent : List A) where
  -- number 10 comes after the other rules
  abbrev last : List Rule
  last = (Refusal.ShortList when short) ∷ []

  pub by_refused : {x : Refusal} → Err x ≡ outcome_by rules →
      WroteBy rules short result lent lent (Err x)
  by_refused {x} e =
      record {
        answer =
            outcome_refuses Err _ rules x e
            ∙ sym (unless_append Err rules last (Ok (length result)));
        list = outcome_refuses (λ y. lent) _ rules x e ∙ sym (unless_append (λ y. lent) rules last (over result lent));
      }

  module _ (served : Ok tt ≡ outcome_by rules) where
    -- what stands after the rules, where they serve
    after_rules : {B : Type 0} (f : Refusal → B) (a : B) → unless f last a ≡ unless f (rules ++ last) a
    after_rules f a = outcome_serves f (unless f last a) rules served ∙ sym (unless_append f rules last a)

    pub by_short : short ≡ true → WroteBy rules short result lent lent (Err Refusal.ShortList)
    unfolding unless
    by_short e =
        record {
          answer = sym (rw e) ∙ after_rules Err (Ok (length result));
          list = sym (rw e) ∙ after_rules (λ y. lent) (over result lent);
        }

    pub by_written : {n : ℕ} {after : List A} → short ≡ false → n ≡ length result → after ≡ over result lent →
        WroteBy rules short result lent after (Ok n)
    unfolding unless
    by_written e size holds =
        record {
          answer = ap Ok size ∙ sym (rw e) ∙ after_rules Err (Ok (length result));
          list = holds ∙ sym (rw e) ∙ after_rules (λ y. lent) (over result lent);
        }

-- where the room was found to be what the list has
pub wrote_by : {A : Type 0} {rules : List Rule} {short : Bool} {result before after : List A} {r : Result ℕ Refusal} →
    WroteBy rules short result before after r → short ≡ is_short result before → Wrote rules result before after r
unfolding written_answer
wrote_by {A} {rules} {short} {result} {before} {after} {r} w e =
    record {
      answer =
          answered (writing rules result before) (λ x. refl)
          (w.answer ∙ ap (λ (b : Bool). unless Err (and_short rules b) (Ok (length result))) e);
      list = w.list ∙ ap (λ (b : Bool). lent_after (and_short rules b) result before) e;
    }
