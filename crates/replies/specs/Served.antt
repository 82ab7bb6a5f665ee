-- What a function promises that crosses the boundary to other languages, in the order of this
-- page: the rules of a call and the values that it writes; the number that is returned; one lent list;
-- two lent lists.
-- Document 01: the number is that of the first rule that applies, 0 where the call is served.
-- Number 10 comes last: "lent list shorter than the result; a longer one keeps its tail", and a
-- refused call leaves every lent list as it was.
use Rattle.std.specs.Prelude.{◌≡◌, ◌||◌, List, [], ℕ}
use Rattle.std.specs.declared.result.Result.{Result}
use Rattle.std.specs.declared.result.Result.TheVariants.{Ok, Err}
use Rattle.model.specs.declared.Refusal.{Refusal}
use Rattle.model.specs.Refusals.{number, Rule, unless}
use Rattle.model.specs.Lent.{is_short, and_short, lent_after}

-- the rules that come before number 10, and the values
pub record Reply (A : Type 0) : Type 0 where
  pub rules : List Rule
  pub values : List A

-- values without a rule
abbrev pub only : {A : Type 0} → List A → Reply A
only values = record { rules = []; values = values }

-- the number that is returned, by rules and by an answer
abbrev pub number_by : List Rule → ℕ
number_by rules = unless number rules 0

abbrev pub code_of : {A : Type 0} → Result A Refusal → ℕ
code_of (Ok a) = 0
code_of (Err r) = number r

module _ {A : Type 0} (reply : Reply A) (before after : List A) (r : ℕ) where
  abbrev rules : List Rule
  rules = and_short reply.rules (is_short reply.values before)

  pub record Served : Type 0 where
    pub code : r ≡ number_by rules
    pub list : after ≡ lent_after rules reply.values before

-- two lists: number 10 where either is too short
pub record ServedBoth {A B : Type 0} (rules : List Rule) (u : List A) (v : List B)
    (before after : List A)
    (before' after' : List B) (r : ℕ) : Type 0 where
  pub code : r ≡ number_by (and_short rules (is_short u before || is_short v before'))
  pub list : after ≡ lent_after (and_short rules (is_short u before || is_short v before')) u before
  pub list' : after' ≡
      lent_after (and_short rules (is_short u before || is_short v before')) v before'
