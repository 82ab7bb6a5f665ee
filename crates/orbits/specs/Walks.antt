-- A walk along two links in turn, which the prover runs, and a walker, which is moved by one link.
-- Document 01: "A walk from a dart is read edge, point, edge in turn. It ends home when a point
-- step reaches its start, or loose when an edge step is due at a dart with a fixed edge link. It
-- gives the last dart, the ending and the moves made, never more than there are darts. A walker can
-- be moved by one link and shows the dart it has reached."
-- Here f is the edge link and g the point link.
use Rattle.std.specs.Prelude.{cond, ℕ, zero, suc, eqb}
use Rattle.orbits.specs.Classes.{is_fixed}
use Rattle.orbits.specs.declared.Walk.{Walk}
use Rattle.orbits.specs.declared.Walker.{Walker}
use Rattle.orbits.specs.declared.Ending.{Ending}
use Rattle.orbits.specs.declared.Ending.TheVariants.{Home, Loose}

-- a walk that ends at d after so many moves
abbrev pub ends : Ending → ℕ → ℕ → Walk
ends e d moves = record { last = d; ending = e; moves = moves }

-- The walk from `start` goes on at d, with k moves left and `moves` made: an edge step is due, or
-- a point step. With no move left a walk stops where it is, which a reader of a sound map never sees:
-- where f and g undo themselves and g fixes only what f fixes, a walk that begins with as many moves
-- left as there are darts ends before it runs out (`walk_enough` of proofs/Walks). For other links it
-- may run out, or come home by the same darts twice.
module _ (f g : ℕ → ℕ) (start : ℕ) where
  unfoldable mutual
    unfolding is_fixed

    pub edge_step : ℕ → ℕ → ℕ → Walk
    edge_step zero d moves = ends Loose d moves
    edge_step (suc k) d moves =
        let on = point_step k (f d) (suc moves) in cond (is_fixed f d) (ends Loose d moves) on

    pub point_step : ℕ → ℕ → ℕ → Walk
    point_step zero d moves = ends Loose d moves
    point_step (suc k) d moves =
        let on = edge_step k (g d) (suc moves) in
        cond (eqb (g d) start) (ends Home (g d) (suc moves)) on

-- the walk from a dart, of at most n moves
unfoldable pub walk : (ℕ → ℕ) → (ℕ → ℕ) → ℕ → ℕ → Walk
unfolding edge_step point_step
walk f g n start = edge_step f g start n start 0

-- a walker that stands at dart d
abbrev pub walker_at : ℕ → Walker
walker_at d = record { dart = d }
