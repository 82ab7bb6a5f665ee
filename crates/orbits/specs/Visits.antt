-- Visits, in the order of this page: what a call adds to the queue; when a part can be visited, and that it
-- was; one dart put.
use Rattle.std.specs.Prelude.{◌≡◌, Bool, List, ℕ, ◌≤◌, ◌<◌, T, get_or}
use Rattle.orbits.specs.Reach.{Reach, by_two}
use Rattle.orbits.specs.Links.{link_of, test_of, Followable}
use Rattle.orbits.specs.declared.visits.Queue.{Queue}

-- a queue, and the queue that a call leaves: the same darts, and behind them some of which Q holds
pub record Lengthened (Q : ℕ → Type 0) (q r : Queue) : Type 0 where
  pub longer : q.end ≤ r.end
  pub same : (i : ℕ) → i < q.end → get_or r.order i 0 ≡ get_or q.order i 0
  pub added : (i : ℕ) → q.end ≤ i → i < r.end → Q (get_or r.order i 0)

-- both links of d are seen; they are of every dart seen
abbrev pub LinksSeen : (ℕ → ℕ) → (ℕ → ℕ) → List Bool → ℕ → Type 0
LinksSeen f g seen d = T (test_of seen (f d)) × T (test_of seen (g d))

abbrev pub Closed : (ℕ → ℕ) → (ℕ → ℕ) → List Bool → Type 0
Closed f g seen = (d : ℕ) → T (test_of seen d) → LinksSeen f g seen d

-- what is reached from d can be put into the queue
pub record Ready (f g : List ℕ) (d : ℕ) (q : Queue) : Type 0 where
  pub within : Followable f g d
  pub closed : Closed (link_of f) (link_of g) q.seen

-- it is in the queue, and nothing else is new
pub record Visited (f g : List ℕ) (d : ℕ) (q r : Queue) : Type 0 where
  pub lengthened : Lengthened (Reach (by_two (link_of f) (link_of g)) d) q r
  pub start : T (test_of r.seen d)
  pub closed : Closed (link_of f) (link_of g) r.seen

-- d alone is in the queue, and nothing else is new
pub record Put (d : ℕ) (q r : Queue) : Type 0 where
  pub lengthened : Lengthened (λ e. e ≡ d) q r
  pub start : T (test_of r.seen d)
