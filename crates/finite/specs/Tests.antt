-- Tests as Bool, beside `not`, `◌&&◌` and `◌||◌` of mathlib.Core.Bool: an implication, and the
-- laws that take `T (a && b)`, `T (a || b)` and `T (a ⇒ b)` apart and put them together; a choice
-- between the same; then two numbers are the same or not.
-- `T b` is the type that has an element just where the test b passes (lib.Dec).
use Rattle.std.specs.Prelude.{◌≡◌, refl, ◌≢◌, ◌⊎◌, Bool, true, false, not, cond, ◌&&◌, ◌||◌, ℕ, T, eqb}
use Rattle.std.proofs.Common.{sym, subst, inl, inr, ⊎_elim, T_not, eqb→eq}
use Rattle.std.specs.Bool.{beq}
use Rattle.std.proofs.Math.Dec.{not_T, eqb_refl}

infixr 25 ◌⇒◌
-- if the first passes, so does the second
abbrev pub ◌⇒◌ : Bool → Bool → Bool
true ⇒ b = b
false ⇒ b = true

-- both pass or neither does
pub beq_eq : (a b : Bool) → T (beq a b) → a ≡ b
beq_eq true true t = refl
beq_eq true false t = absurd t
beq_eq false true t = absurd t
beq_eq false false t = refl

pub beq_refl : (a : Bool) → T (beq a a)
beq_refl true = tt
beq_refl false = tt

pub and_left : (a b : Bool) → T (a && b) → T a
and_left true b t = tt
and_left false b t = t

pub and_right : (a b : Bool) → T (a && b) → T b
and_right true b t = t
and_right false b t = absurd t

pub and_both : (a b : Bool) → T a → T b → T (a && b)
and_both true b s t = t
and_both false b s t = s

pub and_true : (a : Bool) → (a && true) ≡ a
and_true true = refl
and_true false = refl

pub and_assoc : (a b c : Bool) → (a && (b && c)) ≡ ((a && b) && c)
and_assoc true b c = refl
and_assoc false b c = refl

pub or_cases : (a b : Bool) → T (a || b) → T a ⊎ T b
or_cases true b t = inl t
or_cases false b t = inr t

pub or_left : (a b : Bool) → T a → T (a || b)
or_left true b t = t
or_left false b t = absurd t

pub or_right : (a b : Bool) → T b → T (a || b)
or_right true b t = tt
or_right false b t = t

pub implies_use : (a b : Bool) → T (a ⇒ b) → T a → T b
implies_use true b t s = t
implies_use false b t s = absurd s

pub implies_by : (a b : Bool) → (T a → T b) → T (a ⇒ b)
implies_by true b f = f tt
implies_by false b f = tt

-- a test passes or its negation does
pub decide : (a : Bool) → T a ⊎ T (not a)
decide true = inl tt
decide false = inr tt

pub is_true : (a : Bool) → T a → a ≡ true
is_true true t = refl
is_true false t = absurd t

pub is_false : (a : Bool) → (T a → ⊥) → a ≡ false
is_false true f = absurd (f tt)
is_false false f = refl

pub of_true : (a : Bool) → a ≡ true → T a
of_true a e = subst T (sym e) tt

pub not_not : (a : Bool) → ¬ T (not a) → T a
not_not true n = tt
not_not false n = n tt

-- two tests that imply each other are equal
pub same_test : (a b : Bool) → (T a → T b) → (T b → T a) → a ≡ b
same_test true true f g = refl
same_test true false f g = absurd (f tt)
same_test false true f g = absurd (g tt)
same_test false false f g = refl

-- whichever is chosen
pub either_way {ℓ} : {A : Type ℓ} (b : Bool) (a : A) → cond b a a ≡ a
either_way true a = refl
either_way false a = refl

-- ---- two numbers: the test that they are equal, or differ, and the statement

pub equal_by : (a b : ℕ) → a ≡ b → T (eqb a b)
equal_by a b e = subst (λ (c : ℕ). T (eqb a c)) e (eqb_refl a)

pub differ_use : (a b : ℕ) → T (not (eqb a b)) → a ≢ b
differ_use a b t e = T_not (eqb a b) t (equal_by a b e)

pub differ_by : (a b : ℕ) → a ≢ b → T (not (eqb a b))
differ_by a b n = not_T (eqb a b) (λ t. n (eqb→eq a b t))

pub same_or_not : (a b : ℕ) → (a ≡ b) ⊎ (a ≢ b)
same_or_not a b =
    ⊎_elim
    (λ (t : T (eqb a b)). inl (eqb→eq a b t)) (λ (t : T (not (eqb a b))). inr (differ_use a b t)) (decide (eqb a b))
