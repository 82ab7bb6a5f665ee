-- What is reached from a dart by links, in the order of this page: the links as a parameter; the
-- relation "b is reached from a", and a bound on what is reached; the list of all that is reached,
-- which the prover runs.
-- Document 01, "Reading a map": orbits are what one link reaches, connected parts (the field's
-- components) what two links reach. Darts are numbers below a bound n, and no map is known here.
use Rattle.std.specs.Prelude.{Bool, ℕ, zero, suc, ◌<◌, T}
use mathlib.Core.List.{List, [], ◌∷◌, flat_map}
use Rattle.finite.specs.Lists.{elem, union}

-- the darts that lie one link away, for one link and for two
abbrev pub by_one : (ℕ → ℕ) → ℕ → List ℕ
by_one f d = f d ∷ []

abbrev pub by_two : (ℕ → ℕ) → (ℕ → ℕ) → ℕ → List ℕ
by_two f g d = f d ∷ g d ∷ []

-- b is reached from a: it is a, or lies one link from a dart that is reached
pub data Reach (next : ℕ → List ℕ) (a : ℕ) : ℕ → Type 0 where
  here : Reach next a a
  there : {b c : ℕ} → Reach next a b → T (elem c (next b)) → Reach next a c

-- what is reached from d lies below n
abbrev pub StaysBelow : ℕ → (ℕ → List ℕ) → ℕ → Type 0
StaysBelow n next d = (b : ℕ) → Reach next d b → b < n

-- the members of s and what lies at most k links from one of them
unfoldable pub spread : (ℕ → List ℕ) → ℕ → List ℕ → List ℕ
unfolding union flat_map
spread next zero s = s
spread next (suc k) s = spread next k (union (flat_map next s) s)

-- all that is reached from a among n darts: n links are enough
unfoldable pub reached : (ℕ → List ℕ) → ℕ → ℕ → List ℕ
unfolding spread
reached next n a = spread next n (a ∷ [])

-- b is reached from a among n darts, as a test
unfoldable pub reaches : (ℕ → List ℕ) → ℕ → ℕ → ℕ → Bool
unfolding reached elem
reaches next n a b = elem b (reached next n a)
