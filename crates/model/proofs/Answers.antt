-- The laws of calls, in the order of this page: the largest number; the first rule that applies decides;
-- rules in two parts; rules that are checked by a function that answers an outcome; what is made of an answer
-- is made of each refusal and of the value, so an entry whose answer is that of the call means what it
-- promises to mean.
use mathlib.Core.Path.{◌≡◌, refl, ap, subst, ◌∙◌}
use mathlib.Core.Bool.{Bool, true, false, cond}
use mathlib.Core.List.{List, [], ◌∷◌, ◌++◌}
use Prim.Native.Nat.{ℕ, ◌≤◌}
use native.Mathlib.Omega.{arith}
use lib.Dec.{T}
use Rattle.std.specs.declared.result.Result.{Result}
use Rattle.std.specs.declared.result.Result.TheVariants.{Ok, Err}
use Rattle.finite.specs.Tests.{of_true, is_true, is_false}
use Rattle.model.specs.declared.Refusal.{Refusal}
use Rattle.model.specs.Refusals.{number, Rule, unless, Refuses, at_once, later, NoneApplies, none, nor}
use Rattle.model.specs.Answers.{refused, Call, answer_of, outcome_by, Answered}

-- no number is above 18: those of document 01 end at 10, and the requests after it bring eight more
pub number_most : (r : Refusal) → number r ≤ 18
unfolding number
number_most Refusal.NotSound = omega arith
number_most Refusal.Full = omega arith
number_most Refusal.OutOfRange = omega arith
number_most Refusal.Repeated = omega arith
number_most Refusal.NoDart = omega arith
number_most Refusal.BadFile = omega arith
number_most Refusal.BadLine = omega arith
number_most Refusal.LongText = omega arith
number_most Refusal.ShortList = omega arith
number_most Refusal.BadOutline = omega arith
number_most Refusal.NoSurvey = omega arith
number_most Refusal.NoPoint = omega arith

-- ---- one rule after another

module _ {A : Type 0} (refuse : Refusal → A) (rule : Rule) (rules : List Rule) (a : A) where
  pub rule_applies : rule.applies ≡ true → refuse rule.refusal ≡ unless refuse (rule ∷ rules) a
  unfolding unless
  rule_applies e = rw e

  pub rule_passes : {x : A} → rule.applies ≡ false → x ≡ unless refuse rules a → x ≡ unless refuse (rule ∷ rules) a
  unfolding unless
  rule_passes e f = rw e f

pub no_rule : {A : Type 0} (refuse : Refusal → A) (a : A) → a ≡ unless refuse [] a
unfolding unless
no_rule refuse a = refl

-- what a list of rules comes to: the refusal of the first that applies, or the value, where none does
pub data RulesDecide {A : Type 0} (refuse : Refusal → A) (rules : List Rule) (a : A) : A → Type 0 where
  refuses : (r : Refusal) → Refuses r rules → RulesDecide refuse rules a (refuse r)
  serves : NoneApplies rules → RulesDecide refuse rules a a

pub unless_decides : {A : Type 0} (refuse : Refusal → A) (rules : List Rule) (a : A) →
    RulesDecide refuse rules a (unless refuse rules a)
unfolding unless
unless_decides refuse [] a = serves none
unless_decides {A} refuse (rule ∷ rules) a = go rule.applies refl (unless_decides refuse rules a)
  where
    further : ¬ T rule.applies → (x : A) → RulesDecide refuse rules a x → RulesDecide refuse (rule ∷ rules) a x
    further n x (refuses r f) = refuses r (later n f)
    further n x (serves f) = serves (nor n f)

    go : (t : Bool) → rule.applies ≡ t → RulesDecide refuse rules a (unless refuse rules a) →
        RulesDecide refuse (rule ∷ rules) a (cond t (refuse rule.refusal) (unless refuse rules a))
    go true e rest = refuses rule.refusal (at_once (of_true rule.applies e) refl)
    go false e rest = further (λ t. subst T e t) (unless refuse rules a) rest

-- where no rule applies, the value
pub unless_none : {A : Type 0} (refuse : Refusal → A) (a : A) {rules : List Rule} → NoneApplies rules →
    unless refuse rules a ≡ a
unfolding unless
unless_none refuse a none = refl
unless_none refuse a (nor {rule} n rest) = rw (is_false rule.applies n) (unless_none refuse a rest)

-- where one applies first, its refusal
pub unless_refuses : {A : Type 0} (refuse : Refusal → A) (a : A) {r : Refusal} {rules : List Rule} → Refuses r rules →
    unless refuse rules a ≡ refuse r
unfolding unless
unless_refuses refuse a (at_once {rule} t e) = rw (is_true rule.applies t) (ap refuse e)
unless_refuses refuse a (later {rule} n first) = rw (is_false rule.applies n) (unless_refuses refuse a first)

-- where a rule applies, it is not so that none does
pub refuses_some : {r : Refusal} {rules : List Rule} → Refuses r rules → ¬ NoneApplies rules
refuses_some (at_once t e) (nor n rest) = n t
refuses_some (later n first) (nor n' rest) = refuses_some first rest

-- ---- rules in two parts

pub unless_append : {A : Type 0} (f : Refusal → A) (rules more : List Rule) (a : A) →
    unless f (rules ++ more) a ≡ unless f rules (unless f more a)
unfolding unless
unless_append f [] more a = refl
unless_append f (rule ∷ rules) more a =
    ap (cond rule.applies (f rule.refusal)) (unless_append f rules more a)

-- none applies just where none of either part does
pub none_append : {rules more : List Rule} → NoneApplies rules → NoneApplies more → NoneApplies (rules ++ more)
none_append none f = f
none_append (nor n rest) f = nor n (none_append rest f)

pub none_both : (rules : List Rule) {more : List Rule} → NoneApplies (rules ++ more) →
    NoneApplies rules × NoneApplies more
none_both [] f = (none, f)
none_both (rule ∷ rules) (nor n rest) = let both = none_both rules rest in (nor n both.0, both.1)

-- the first rule that applies stands in the first part, or in the second where none of the first applies
pub refuses_front : {r : Refusal} {rules : List Rule} → Refuses r rules → (more : List Rule) → Refuses r (rules ++ more)
refuses_front (at_once t e) more = at_once t e
refuses_front (later n first) more = later n (refuses_front first more)

pub refuses_later : {r : Refusal} {rules more : List Rule} → NoneApplies rules → Refuses r more →
    Refuses r (rules ++ more)
refuses_later none first = first
refuses_later (nor n rest) first = later n (refuses_later rest first)

-- ---- rules that are checked first, by a function that answers an outcome

module _ {A : Type 0} (f : Refusal → A) (a : A) where
  pub outcome_refuses : (rules : List Rule) (r : Refusal) → Err r ≡ outcome_by rules → f r ≡ unless f rules a
  unfolding unless
  outcome_refuses [] r e = absurd (let z : ◌≡◌ {A = ℕ} 0 1 = cc in omega arith)
  outcome_refuses (rule ∷ rules) r e = go rule.applies e (outcome_refuses rules r)
    where
      go : (t : Bool) → Err r ≡ cond t (Err rule.refusal) (outcome_by rules) →
          (Err r ≡ outcome_by rules → f r ≡ unless f rules a) →
          f r ≡ cond t (f rule.refusal) (unless f rules a)
      go true e rest = cc
      go false e rest = rest e

  pub outcome_serves : (rules : List Rule) → Ok tt ≡ outcome_by rules → a ≡ unless f rules a
  unfolding unless
  outcome_serves [] e = refl
  outcome_serves (rule ∷ rules) e = go rule.applies e (outcome_serves rules)
    where
      go : (t : Bool) → Ok tt ≡ cond t (Err rule.refusal) (outcome_by rules) →
          (Ok tt ≡ outcome_by rules → a ≡ unless f rules a) → a ≡ cond t (f rule.refusal) (unless f rules a)
      go true e rest = absurd (let z : ◌≡◌ {A = ℕ} 0 1 = cc in omega arith)
      go false e rest = rest e

pub served_none : (rules : List Rule) → Ok tt ≡ outcome_by rules → NoneApplies rules
unfolding unless
served_none [] e = none
served_none (rule ∷ rules) e = go rule.applies refl e (served_none rules)
  where
    go : (t : Bool) → rule.applies ≡ t → Ok tt ≡ cond t (Err rule.refusal) (outcome_by rules) →
        (Ok tt ≡ outcome_by rules → NoneApplies rules) → NoneApplies (rule ∷ rules)
    go true is e rest = absurd (let z : ◌≡◌ {A = ℕ} 0 1 = cc in omega arith)
    go false is e rest = nor (λ t. subst T is t) (rest e)

-- ---- what answers mean

choice_made : {A B : Type 0} (f : A → B) (t : Bool) (x y : A) → f (cond t x y) ≡ cond t (f x) (f y)
choice_made f true x y = refl
choice_made f false x y = refl

pub unless_made : {A B : Type 0} (f : A → B) (refuse : Refusal → A) (refuse' : Refusal → B) →
    ((r : Refusal) → f (refuse r) ≡ refuse' r) → (rules : List Rule) (a : A) →
    f (unless refuse rules a) ≡ unless refuse' rules (f a)
unfolding unless
unless_made f refuse refuse' same [] a = refl
unless_made f refuse refuse' same (rule ∷ rules) a =
    choice_made f rule.applies (refuse rule.refusal) (unless refuse rules a)
    ∙ (λ i. cond rule.applies (same rule.refusal i) (unless_made f refuse refuse' same rules a i))

pub answered : {A : Type 0} (c : Call A) {r : Result A Refusal} → ((x : Refusal) → c.meaning (Err x) ≡ refused x) →
    r ≡ answer_of c → Answered c r
answered c same e =
    record {
      equal = e;
      means = ap c.meaning e ∙ unless_made c.meaning Err refused same c.rules (Ok c.value);
    }
