-- Results that are written into a lent list of any element, in the order of this page: number 10;
-- the call, with the rules that come before it; what the list then holds; what an entry promises of
-- both; what an inner function promises that is told whether there is room.
-- Document 01, number 10: "lent list shorter than the result; a longer one keeps its tail". A
-- refused call leaves the list as it was.
use Rattle.std.specs.Prelude.{◌≡◌, Bool, List, [], ◌∷◌, ◌++◌, ℕ, ltb, length}
use Rattle.std.specs.declared.result.Result.{Result}
use Rattle.std.specs.declared.result.Result.TheVariants.{Ok, Err}
use Rattle.finite.specs.Overwriting.{over}
use Rattle.model.specs.declared.Refusal.{Refusal}
use Rattle.model.specs.Refusals.{Rule, ◌when◌, unless}
use Rattle.model.specs.Answers.{Call, Answered, written_answer}

-- the list is shorter than the result
abbrev pub is_short : {A : Type 0} → List A → List A → Bool
is_short result lent = ltb (length lent) (length result)

-- number 10 after the other rules
abbrev pub and_short : List Rule → Bool → List Rule
and_short rules short = rules ++ (Refusal.ShortList when short) ∷ []

module _ {A : Type 0} (rules : List Rule) (result lent : List A) where
  -- a call that writes `result` into the list, after the rules that come before 10
  abbrev pub writing : Call ℕ
  writing =
      record {
        meaning = written_answer;
        rules = and_short rules (is_short result lent);
        value = length result;
      }

-- what the list holds after a call, by all of its rules, number 10 among them: what it held where
-- one applies, and otherwise the result over its front
abbrev pub lent_after : {A : Type 0} → List Rule → List A → List A → List A
lent_after rules result lent = unless (λ r. lent) rules (over result lent)

-- what an entry promises that is lent a list: its answer, and the list as it leaves it
pub record Wrote {A : Type 0} (rules : List Rule) (result before after : List A) (r : Result ℕ Refusal) : Type 0 where
  pub answer : Answered (writing rules result before) r
  pub list : after ≡ lent_after (writing rules result before).rules result before

-- the same, where `short` says that there is not room for all that is asked, this result and others
pub record WroteBy {A : Type 0} (rules : List Rule) (short : Bool) (result before after : List A) (r : Result ℕ Refusal) : Type 0 where
  pub answer : r ≡ unless Err (and_short rules short) (Ok (length result))
  pub list : after ≡ lent_after (and_short rules short) result before
