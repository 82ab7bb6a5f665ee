-- Hashes, in the order of this page: what the machine computes of a point; the hashes of no
-- point, and of one more; a point whose hash is not set is none of the points.
use mathlib.Core.Path.{◌≡◌, sym, subst, ◌∙◌}
use mathlib.Core.Logic.{◌≢◌, ⊎_elim}
use mathlib.Core.Bool.{true, false}
use mathlib.Core.List.{List, []}
use Prim.Native.Nat.{ℕ, ◌+◌, ◌*◌, ◌<◌}
use native.Mathlib.Omega.{arith}
use lib.Dec.{T}
use lib.IntN.{ℤ, pos, ◌+ℤ◌, ◌*ℤ◌}
use lib.ListN.{length, get_or, set, length-set, length-replicate}
use lib.Seq.{get_or-set_same, get_or-set_other}
use lib.Signed.{◌≤ℤ◌}
use mir.Syntax.{w64}
use Rattle.integers.specs.Order.{order, +ℤ_splits}
use Rattle.integers.specs.Sign.{nonneg_nonneg}
use Rattle.integers.specs.Range.{Number, bounded_splits, literal, add, mul}
use Rattle.integers.proofs.Range.{back}
use Rattle.finite.specs.Tests.{is_false, same_or_not}
use Rattle.finite.specs.Bounded.{any_at, below_suc}
use Rattle.model.specs.declared.Point.{Point}
use Rattle.model.specs.Plane.{coordinate_limit}
use Rattle.model.specs.Maps.{point_in}
use Rattle.model.proofs.Shape.{same_point_eq}
use Rattle.plane.proofs.Bounds.{span}
use Rattle.admission.specs.declared.hashes.Hashes.{Hashes}
use Rattle.admission.specs.Admission.{repeated_in}
use Rattle.admission.specs.Hashes.{hash_count, hash_row, numbered, hash, no_hashes, with_hash, AllHashed}

-- ---- what the machine computes, operation by operation, from coordinates in range

module _ {x y : ℤ} (a : Number coordinate_limit x) (b : Number coordinate_limit y) where
  abbrev pub column : Number span (x +ℤ pos coordinate_limit)
  column = add a (literal (pos coordinate_limit))

  abbrev pub row : Number span (y +ℤ pos coordinate_limit)
  row = add b (literal (pos coordinate_limit))

  abbrev pub rows : Number (hash_row * span) (pos hash_row *ℤ (y +ℤ pos coordinate_limit))
  rows = mul (literal (pos hash_row)) (back w64 tt row)

  abbrev pub number : Number (span + hash_row * span) (numbered x y)
  number = add (back w64 tt column) (back w64 tt rows)

  pub number_nonneg : pos 0 ≤ℤ numbered x y
  number_nonneg =
      let low : pos 0 ≤ℤ (x +ℤ pos coordinate_limit) =
      omega (arith, order, bounded_splits a.small, +ℤ_splits x (pos coordinate_limit)) in
      let high : pos 0 ≤ℤ (pos hash_row *ℤ (y +ℤ pos coordinate_limit)) =
      nonneg_nonneg {a = pos hash_row} {b = y +ℤ pos coordinate_limit} (omega (arith, order))
      (omega (arith, order, bounded_splits b.small, +ℤ_splits y (pos coordinate_limit))) in
      omega (
        arith,
        order,
        +ℤ_splits (x +ℤ pos coordinate_limit) (pos hash_row *ℤ (y +ℤ pos coordinate_limit)),
      )

pub hash_below : (p : Point) → hash p < hash_count
unfolding hash
hash_below p = omega arith

-- ---- the hashes of points

-- of no point any hashes are
pub none_hashed : {hashes : Hashes} → hash_count ≡ length hashes.set → AllHashed [] hashes
none_hashed whole = record { whole = sym whole; hashed = λ k h. absurd (omega arith) }

pub no_hashes_whole : hash_count ≡ length no_hashes.set
no_hashes_whole = sym (length-replicate hash_count false)

-- one point more: those before it are where they were
pub one_hashed : {points more : List Point} {hashes : Hashes} (p : Point) → AllHashed points hashes →
    length more ≡ length points + 1 → ((k : ℕ) → k < length points → point_in more k ≡ point_in points k) →
    point_in more (length points) ≡ p → AllHashed more (with_hash hashes p)
one_hashed {points} {more} {hashes} p all longer old new =
    record {
      whole = length-set hashes.set (hash p) true ∙ all.whole;
      hashed =
          λ k h.
          ⊎_elim (λ (l : k < length points). rw (old k l) (stays (hash (point_in points k)) (all.hashed k l)))
          (λ (e : k ≡ length points). rw (e, new) here) (below_suc (length points) k (omega arith));
    }
  where
    here : T (get_or (set hashes.set (hash p) true) (hash p) false)
    here = rw (get_or-set_same hashes.set (hash p) true false (omega (arith, all.whole, hash_below p))) tt

    stays : (v : ℕ) → T (get_or hashes.set v false) → T (get_or (set hashes.set (hash p) true) v false)
    stays v t =
        ⊎_elim (λ (e : v ≡ hash p). rw e here)
        (λ (n : v ≢ hash p). rw (get_or-set_other hashes.set (hash p) v true false n) t) (same_or_not v (hash p))

-- a point whose hash is not set
pub unhashed_new : {points : List Point} {hashes : Hashes} (p : Point) → AllHashed points hashes →
    get_or hashes.set (hash p) false ≡ false → repeated_in points p ≡ false
unhashed_new {points} {hashes} p all none =
    is_false (repeated_in points p)
    (λ t.
    let f = any_at (length points) _ t in
    let e = same_point_eq (point_in points f.0) p f.2 in
    subst T none (subst (λ (q : Point). T (get_or hashes.set (hash q) false)) e (all.hashed f.0 f.1)))
