-- What was read of standard input, in the order of this page: one read; reads, one after another;
-- all of them. The bytes are those of the input, of any that is known: which bytes the system gives
-- no contract tells.
use Rattle.std.specs.Prelude.{◌≡◌, List, ℕ, ◌+◌, ◌≤◌, ◌<◌, length, take, Option, Result, IfOk, OnErr}
use Rattle.std.specs.Io.KnownBytes.{Consumes, IsAtEnd}

-- one read that brought so many bytes more: it keeps those that were read before it
pub record ReadMore (before : List ℕ) (filled : ℕ) (after : List ℕ) (more : ℕ) : Type 0 where
  pub kept : take filled after ≡ take filled before
  pub as_long : length after ≡ length before
  pub inside : filled + more ≤ length before

-- reads that bring from an empty list to so many bytes, each from where the one before it ended
pub data Reads (lent : List ℕ) : List ℕ → ℕ → Type 0 where
  begun : Reads lent lent 0
  continued : {before after : List ℕ} {filled more : ℕ} → Reads lent before filled →
      ReadMore before filled after more → Reads lent after (filled + more)

-- all reads, which came to n bytes: the list is full, or the last read brought nothing and the input is
-- at its end; and these bytes are what the input has lost
pub record ReadAll (input left : Option (List ℕ)) (lent after : List ℕ) (n : ℕ) : Type 0 where
  pub reads : Reads lent after n
  pub inside : n ≤ length lent
  pub told : n < length lent → (before : List ℕ) × ReadMore before n after 0
  pub ended : n < length lent → IsAtEnd left
  pub bytes : Consumes input left (take n after)

-- .. or a read failed, after some others
pub record ReadText {E : Type 0} (input left : Option (List ℕ)) (lent after : List ℕ)
    (r : Result ℕ E) : Type 0 where
  pub as_long : length after ≡ length lent
  pub read : IfOk r (ReadAll input left lent after)
  pub failed : OnErr r ((n : ℕ) × Reads lent after n)
