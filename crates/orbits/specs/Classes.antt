-- How many orbits or connected parts there are, in the order of this page: the least dart of a
-- class, the number of classes, closed walks and their number. `next` gives the darts one link
-- away (specs/Reach), n is the bound of the darts and `present` tells which of them are there.
-- Document 01: "A fixed dart is an edge orbit of one"; "Only present darts and their orbits are
-- counted"; "A closed walk is a connected part in which neither link fixes a dart".
use Rattle.std.specs.Prelude.{Bool, not, ◌&&◌, List, ℕ, eqb}
use Rattle.finite.specs.Bounded.{all, count}
use Rattle.finite.specs.Lists.{elem, all_in}
use Rattle.orbits.specs.Reach.{by_two, reached}

-- a is the least of the darts that it reaches, so it stands for its class
unfoldable pub is_least : (ℕ → List ℕ) → ℕ → ℕ → Bool
unfolding all reached elem
is_least next n a = let s = reached next n a in all a (λ b. not (elem b s))

-- the number of orbits (next by one link) or of connected parts (by two) of the present darts
unfoldable pub classes : (ℕ → List ℕ) → ℕ → (ℕ → Bool) → ℕ
unfolding count is_least
classes next n present = count n (λ a. present a && is_least next n a)

-- a dart that the link leaves where it is
unfoldable pub is_fixed : (ℕ → ℕ) → ℕ → Bool
is_fixed f d = eqb (f d) d

-- the part of a is a closed walk: neither link fixes a dart of it
unfoldable pub is_closed : (ℕ → ℕ) → (ℕ → ℕ) → ℕ → ℕ → Bool
unfolding all_in reached is_fixed
is_closed f g n a = all_in (λ d. not (is_fixed f d) && not (is_fixed g d)) (reached (by_two f g) n a)

-- the number of closed walks among the present darts
unfoldable pub closed_walks : (ℕ → ℕ) → (ℕ → ℕ) → ℕ → (ℕ → Bool) → ℕ
unfolding classes is_closed
closed_walks f g n present = classes (by_two f g) n (λ a. present a && is_closed f g n a)
