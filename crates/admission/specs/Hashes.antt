-- Hashes: each point in range has a number, its hash, by which it is told from most others at once. In
-- the order of this page: how many hashes there are; the hash of a point; no hash set, and one more; the hashes of
-- a map's points, all set.
use Rattle.std.specs.Prelude.{true, false, List, ◌≡◌, ℕ, ◌%◌, ◌<◌, T, ℤ, pos, ◌+ℤ◌, ◌*ℤ◌, nat_abs, length, get_or, replicate, set}
use Rattle.model.specs.declared.Point.{Point}
use Rattle.model.specs.Plane.{coordinate_limit}
use Rattle.model.specs.Maps.{point_in}
use Rattle.admission.specs.declared.hashes.Hashes.{Hashes}

-- how many hashes there are, and how far the hashes of two points lie apart of which one stands above the
-- other
abbrev pub hash_count : ℕ
hash_count = 16_384

abbrev pub hash_row : ℕ
hash_row = 2_039

-- the points in range counted, row upon row, and the hash of one
abbrev pub numbered : ℤ → ℤ → ℤ
numbered x y = (x +ℤ pos coordinate_limit) +ℤ pos hash_row *ℤ (y +ℤ pos coordinate_limit)

unfoldable pub hash : Point → ℕ
hash p = nat_abs (numbered p.x p.y) % hash_count

-- no hash is set
abbrev pub no_hashes : Hashes
no_hashes = record { set = replicate hash_count false }

-- that of p is set too
abbrev pub with_hash : Hashes → Point → Hashes
with_hash hashes p = record { set = set hashes.set (hash p) true }

pub record AllHashed (points : List Point) (hashes : Hashes) : Type 0 where
  pub whole : length hashes.set ≡ hash_count
  pub hashed : (k : ℕ) → k < length points → T (get_or hashes.set (hash (point_in points k)) false)
