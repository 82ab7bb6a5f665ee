-- The darts of the queue by which darts are visited, as a test. The queue itself is src/visits.
use Rattle.std.specs.Prelude.{Bool, List, ℕ, eqb, get_or}
use Rattle.finite.specs.Bounded.{any}

-- d stands in the queue
unfoldable pub queued : List ℕ → ℕ → ℕ → Bool
unfolding any
queued order end d = any end (λ i. eqb d (get_or order i 0))
