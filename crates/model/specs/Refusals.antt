-- Refusals, in the order of this page: the number of each; a rule, which is a refusal and when it
-- applies; the answer by the first rule that applies; the same as statements: which refusal is the first
-- that applies, and that none does.
-- Document 01, "The number on the returned sheet".
use Rattle.std.specs.Prelude.{◌≡◌, Bool, cond, List, [], ◌∷◌, ℕ, T}
use Rattle.model.specs.declared.Refusal.{Refusal}

-- the number of each refusal, as the table has it: 5 is withdrawn (request 106) and is not used again
unfoldable pub number : Refusal → ℕ
number Refusal.NotSound = 1
number Refusal.Full = 2
number Refusal.OutOfRange = 3
number Refusal.Repeated = 4
number Refusal.NoDart = 6
number Refusal.BadFile = 7
number Refusal.BadLine = 8
number Refusal.LongText = 9
number Refusal.ShortList = 10
number Refusal.BadOutline = 11
number Refusal.NoSurvey = 12
number Refusal.NoPoint = 13

-- a refusal, and the condition under which it applies
pub record Rule : Type 0 where
  pub refusal : Refusal
  pub applies : Bool

infix 20 ◌when◌
abbrev pub ◌when◌ : Refusal → Bool → Rule
r when b = record { refusal = r; applies = b }

-- "The lowest number that applies is given. A call is refused under these conditions only." The
-- rules stand in the order that the documents give (specs/Orders), `refuse` makes the answer of a
-- refusal, and where no rule applies the answer is `served`.
unfoldable pub unless {ℓ} : {A : Type ℓ} → (Refusal → A) → List Rule → A → A
unless refuse [] served = served
unless refuse (rule ∷ rules) served =
    let later = unless refuse rules served in cond rule.applies (refuse rule.refusal) later

-- r is the refusal of the first rule that applies
pub data Refuses (r : Refusal) : List Rule → Type 0 where
  at_once : {rule : Rule} {rules : List Rule} → T rule.applies → rule.refusal ≡ r → Refuses r (rule ∷ rules)
  later : {rule : Rule} {rules : List Rule} → ¬ T rule.applies → Refuses r rules → Refuses r (rule ∷ rules)

-- no rule applies
pub data NoneApplies : List Rule → Type 0 where
  none : NoneApplies []
  nor : {rule : Rule} {rules : List Rule} → ¬ T rule.applies → NoneApplies rules → NoneApplies (rule ∷ rules)
