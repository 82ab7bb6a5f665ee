-- What a solver of polynomial identities over ℤ computes: the two sides of an equation are written as
-- expressions, and whether their difference is zero is computed.
-- In this order: expressions; polynomials; equations. That what is computed so holds, and the solver's use,
-- stand in integers/proofs/Solver.
use Rattle.std.specs.Prelude.{◌≡◌, Bool, true, false, ◌&&◌, List, [], ◌∷◌, ℕ, zero, suc, ℤ, pos, negsuc, neg_ℤ, ◌+ℤ◌, ◌-ℤ◌, ◌*ℤ◌}

-- ---- expressions over numbered variables

infixl 6 ◌⊕◌ ◌⊖◌
infixl 7 ◌⊗◌
pub data Expr : Type 0 where
  var : ℕ → Expr
  con : ℤ → Expr
  ◌⊕◌ ◌⊖◌ ◌⊗◌ : Expr → Expr → Expr
  ⊝ : Expr → Expr

-- the variables' numbers: those of a list, and 0 past its end
abbrev pub at : List ℤ → ℕ → ℤ
at [] i = pos 0
at (x ∷ xs) zero = x
at (x ∷ xs) (suc i) = at xs i

abbrev pub eval : Expr → (ℕ → ℤ) → ℤ
eval (var i) ρ = ρ i
eval (con k) ρ = k
eval (e ⊕ f) ρ = eval e ρ +ℤ eval f ρ
eval (e ⊖ f) ρ = eval e ρ -ℤ eval f ρ
eval (e ⊗ f) ρ = eval e ρ *ℤ eval f ρ
eval (⊝ e) ρ = neg_ℤ (eval e ρ)

-- ---- polynomials

-- `horner p q` is p + x·q, where x is the first variable and p is in the later ones. A polynomial
-- is zero where every constant in it is: nothing is sorted, and no form need be unique. `join` and
-- `scale` drop zeros, for speed alone.
pub data Poly : Type 0 where
  const : ℤ → Poly
  horner : Poly → Poly → Poly

abbrev pub later : (ℕ → ℤ) → ℕ → ℤ
later ρ i = ρ (suc i)

abbrev pub value : Poly → (ℕ → ℤ) → ℤ
value (const k) ρ = k
value (horner p q) ρ = value p (later ρ) +ℤ ρ 0 *ℤ value q ρ

-- p + x·0
abbrev pub alone : Poly → Poly
alone (const k) = const k
alone (horner p q) = horner (horner p q) (const (pos 0))

-- p + x·q
abbrev pub join : Poly → Poly → Poly
join p (const (pos zero)) = alone p
join p (const (pos (suc n))) = horner p (const (pos (suc n)))
join p (const (negsuc n)) = horner p (const (negsuc n))
join p (horner q r) = horner p (horner q r)

-- k + p
abbrev pub shift : ℤ → Poly → Poly
shift k (const c) = const (k +ℤ c)
shift k (horner p q) = horner (shift k p) q

abbrev pub plus : Poly → Poly → Poly
plus (const k) r = shift k r
plus (horner p q) (const k) = horner (shift k p) q
plus (horner p q) (horner p' q') = join (plus p p') (plus q q')

abbrev pub scaled : ℤ → Poly → Poly
scaled k (const c) = const (k *ℤ c)
scaled k (horner p q) = horner (scaled k p) (scaled k q)

-- k·p
abbrev pub scale : ℤ → Poly → Poly
scale (pos zero) p = const (pos 0)
scale (pos (suc n)) p = scaled (pos (suc n)) p
scale (negsuc n) p = scaled (negsuc n) p

-- f is the product with a polynomial in the later variables
abbrev pub under : (Poly → Poly) → Poly → Poly
under f (const k) = alone (f (const k))
under f (horner p q) = join (f p) (under f q)

abbrev pub times : Poly → Poly → Poly
times (const k) r = scale k r
times (horner p q) r = plus (under (times p) r) (join (const (pos 0)) (times q r))

abbrev pub variable : ℕ → Poly
variable zero = horner (const (pos 0)) (const (pos 1))
variable (suc i) = horner (variable i) (const (pos 0))

abbrev pub norm : Expr → Poly
norm (var i) = variable i
norm (con k) = const k
norm (e ⊕ f) = plus (norm e) (norm f)
norm (e ⊖ f) = plus (norm e) (scale (negsuc 0) (norm f))
norm (e ⊗ f) = times (norm e) (norm f)
norm (⊝ e) = scale (negsuc 0) (norm e)

abbrev pub is_zero : ℤ → Bool
is_zero (pos zero) = true
is_zero (pos (suc n)) = false
is_zero (negsuc n) = false

abbrev pub vanishes : Poly → Bool
vanishes (const k) = is_zero k
vanishes (horner p q) = vanishes p && vanishes q

abbrev pub equal : Expr → Expr → Bool
equal e f = vanishes (norm (e ⊖ f))

-- ---- equations

-- between expressions; with names for the variables, `Over n` is an equation over n expressions
infix 4 ◌≐◌
pub data Equation : Type 0 where
  ◌≐◌ : Expr → Expr → Equation

abbrev pub Checked : Equation → Bool
Checked (e ≐ f) = equal e f

abbrev pub Holds : Equation → List ℤ → Type 0
Holds (e ≐ f) xs = eval e (at xs) ≡ eval f (at xs)

abbrev pub Over : ℕ → Type 0
Over zero = Equation
Over (suc n) = Expr → Over n

abbrev pub named : (n i : ℕ) → Over n → Equation
named zero i q = q
named (suc n) i q = named n (suc i) (q (var i))

abbrev pub ForAll : (n : ℕ) → (List ℤ → Type 0) → Type 0
ForAll zero P = P []
ForAll (suc n) P = (x : ℤ) → ForAll n (λ xs. P (x ∷ xs))
