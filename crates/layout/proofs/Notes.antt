-- What is noted of a point, in a file: 5 bytes that are groups of 1, 2 and 2, written and read.
-- Document 02, request 107: "n groups of 1, 2 and 2 bytes".
use mathlib.Core.Path.{◌≡◌, refl, ap₂}
use mathlib.Core.List.{List, ◌∷◌, ◌++◌}
use Prim.Native.Nat.{ℕ, ◌+◌, ◌*◌, ◌^◌, ◌<◌}
use native.Mathlib.Nat.{add_assoc}
use native.Mathlib.Omega.{arith}
use Rattle.model.specs.declared.Map.{Map}
use Rattle.model.specs.Maps.{note}
use Rattle.model.specs.Shape.{Fitting}
use Rattle.model.specs.Saved.{big_endian, number_at, packed_note}

-- three numbers packed into one: written; written and read back, each by itself; read
pub groups_written : (a l r : ℕ) → l < 256 ^ 2 → r < 256 ^ 2 →
    big_endian 5 ((a * 256 ^ 2 + l) * 256 ^ 2 + r) ≡ big_endian 1 a ++ big_endian 2 l ++ big_endian 2 r
unfolding big_endian
groups_written a l r h i =
    ap₂ ◌∷◌ (omega arith)
    (ap₂ ◌∷◌ (omega arith)
    (ap₂ ◌∷◌ (omega arith)
    (ap₂ ◌∷◌ (omega arith)
    (ap₂ ◌∷◌ (omega arith) refl))))

pub arrival_group : (a l r : ℕ) → a < 256 → l < 256 ^ 2 → r < 256 ^ 2 →
    number_at (big_endian 5 ((a * 256 ^ 2 + l) * 256 ^ 2 + r)) 0 1 ≡ a
unfolding big_endian number_at
arrival_group a l r g h i = omega arith

pub left_group : (a l r : ℕ) → l < 256 ^ 2 → r < 256 ^ 2 →
    number_at (big_endian 5 ((a * 256 ^ 2 + l) * 256 ^ 2 + r)) 1 2 ≡ l
unfolding big_endian number_at
left_group a l r h i = omega arith

pub right_group : (a l r : ℕ) → l < 256 ^ 2 → r < 256 ^ 2 →
    number_at (big_endian 5 ((a * 256 ^ 2 + l) * 256 ^ 2 + r)) 3 2 ≡ r
unfolding big_endian number_at
right_group a l r h i = omega arith

pub groups_read : (s : List ℕ) (at : ℕ) →
    number_at s at 5 ≡ (number_at s at 1 * 256 ^ 2 + number_at s (at + 1) 2) * 256 ^ 2 + number_at s (at + 3) 2
unfolding number_at
groups_read s at = simp add_assoc (omega arith)

-- what is noted of a point
pub note_groups : (m : Map) (k : ℕ) → Fitting (note m k) →
    big_endian 5 (packed_note m k)
    ≡ big_endian 1 (note m k).arrival ++ big_endian 2 (note m k).left ++ big_endian 2 (note m k).right
unfolding packed_note
note_groups m k f =
    let l = f.left_small in
    let r = f.right_small in
    groups_written (note m k).arrival (note m k).left (note m k).right (omega arith) (omega arith)
