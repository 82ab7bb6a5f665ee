-- What is written into a lent list at a place, in the order of this page: that there is room; what
-- the list holds afterwards, together with the place after what was written.
-- Document 01, number 10: "a longer one keeps its tail".
use Rattle.std.specs.Prelude.{◌≡◌, List, ℕ, ◌+◌, ◌≤◌, length}
use Rattle.finite.specs.Overwriting.{over_at}

pub record Room (lent : List ℕ) (at : ℕ) (bytes : List ℕ) : Type 0 where
  pub room : at + length bytes ≤ length lent

pub record PutAt (lent : List ℕ) (at : ℕ) (bytes after : List ℕ) (end : ℕ) : Type 0 where
  pub holds : after ≡ over_at lent at bytes
  pub ends : end ≡ at + length bytes
