-- From what a check answered to the rules that it stands for, and to what an inner function requires, in
-- the order of this page: the soundness check; what an answer by rules says of them; rules that were
-- checked first; a map and a dart.
use mathlib.Core.Path.{◌≡◌, sym, ap, ◌∙◌}
use mathlib.Core.Bool.{Bool, not}
use mathlib.Core.List.{List, [], ◌∷◌, ◌++◌}
use Prim.Native.Nat.{ℕ}
use native.Mathlib.Omega.{arith}
use lib.Dec.{T}
use Rattle.std.specs.declared.result.Result.{Result}
use Rattle.std.specs.declared.result.Result.TheVariants.{Ok, Err}
use Rattle.finite.specs.Tests.{not_not}
use Rattle.model.specs.declared.Refusal.{Refusal}
use Rattle.model.specs.declared.Map.{Map}
use Rattle.model.specs.Maps.{is_present}
use Rattle.model.specs.Shape.{Shaped}
use Rattle.model.specs.Sound.{sound}
use Rattle.model.specs.Refusals.{Rule, unless, NoneApplies, nor, none}
use Rattle.model.specs.Answers.{outcome_by}
use Rattle.model.specs.Reading.{unsound, dart_rules}
use Rattle.model.proofs.Answers.{RulesDecide, refuses, serves, unless_decides, unless_refuses, unless_none}
use Rattle.model.proofs.Answers.{unless_append}
use Rattle.hull.proofs.Sound.{sound_shaped}

-- the code tests `!r`, where it found r for the test t
pub tested : {r t b : Bool} → r ≡ t → not r ≡ b → not t ≡ b
tested e n = ap not (sym e) ∙ n

-- ---- an answer by rules

module _ {A : Type 0} (rules : List Rule) (v : A) where
  -- refused: whatever else the rules decide is refused with the same number
  pub refused_by : {r : Refusal} → Err r ≡ unless Err rules (Ok v) → {B : Type 0} (f : Refusal → B) (b : B) →
      f r ≡ unless f rules b
  refused_by {r} e {B} f b = go (unless_decides Err rules (Ok v)) e
    where
      go : {x : Result A Refusal} → RulesDecide Err rules (Ok v) x → Err r ≡ x → f r ≡ unless f rules b
      go (refuses q first) e = let same : r ≡ q = cc in ap f same ∙ sym (unless_refuses f b first)
      go (serves free) e = absurd (let z : ◌≡◌ {A = ℕ} 0 1 = cc in omega arith)

  module _ {a : A} (e : Ok a ≡ unless Err rules (Ok v)) where
    -- served: no rule applies,
    pub free_by : NoneApplies rules
    free_by = go (unless_decides Err rules (Ok v)) e
      where
        go : {x : Result A Refusal} → RulesDecide Err rules (Ok v) x → Ok a ≡ x → NoneApplies rules
        go (refuses q first) e = absurd (let z : ◌≡◌ {A = ℕ} 0 1 = cc in omega arith)
        go (serves free) e = free

    -- and the answer has the value
    pub value_by : a ≡ v
    value_by = let same : Ok a ≡ Ok v = e ∙ unless_none Err (Ok v) free_by in cc

    pub served_by : {B : Type 0} (f : Refusal → B) (b : B) → b ≡ unless f rules b
    served_by f b = sym (unless_none f b free_by)

-- ---- rules that were checked first, and more rules after them

module _ {A : Type 0} (f : Refusal → A) (first rest : List Rule) (a : A) where
  pub first_refuses : {r : Refusal} → Err r ≡ outcome_by first → f r ≡ unless f (first ++ rest) a
  first_refuses e = refused_by first tt e f (unless f rest a) ∙ sym (unless_append f first rest a)

  pub first_serves : {x : A} → Ok tt ≡ outcome_by first → x ≡ unless f rest a → x ≡ unless f (first ++ rest) a
  first_serves e is = is ∙ served_by first tt e f (unless f rest a) ∙ sym (unless_append f first rest a)

-- ---- a map, and a dart of it

-- a map that passed its check is sound
module _ (m : Map) (e : Ok tt ≡ outcome_by (unsound m ∷ [])) where
  pub checked_whole : T (sound m)
  checked_whole = go (free_by _ _ e)
    where
      go : NoneApplies (unsound m ∷ []) → T (sound m)
      go (nor n none) = not_not (sound m) n

  pub checked_map : Shaped m
  checked_map = sound_shaped m checked_whole

-- and so is one of which a dart passed its check, which is present
module _ (m : Map) (d : ℕ) (e : Ok tt ≡ outcome_by (dart_rules m d)) where
  passed : NoneApplies (dart_rules m d) → Shaped m × T (is_present m d)
  passed (nor n (nor absent none)) = (sound_shaped m (not_not (sound m) n), not_not (is_present m d) absent)

  pub checked_sound : Shaped m
  checked_sound = (passed (free_by _ _ e)).0

  pub checked_present : T (is_present m d)
  checked_present = (passed (free_by _ _ e)).1
