-- The text of an outline, in the order of this page: by the number of its corners, of which the
-- first one and the others are written one after another; how long it is; of a map's
-- corners that stand in a list.
use mathlib.Core.Path.{◌≡◌, refl, sym, ap, ◌∙◌}
use mathlib.Core.List.{List, [], ◌∷◌, ◌++◌, append_assoc}
use Prim.Native.Nat.{ℕ, ◌+◌, ◌*◌, ◌-◌, ◌≤◌}
use native.Mathlib.Omega.{arith}
use lib.ListN.{length, get_or, take, drop, length-append, length-map, length-take, length-drop}
use lib.Seq.{take_all}
use Rattle.model.specs.declared.Point.{Point}
use Rattle.model.specs.declared.Map.{Map}
use Rattle.model.specs.Spelling.{bytes}
use Rattle.model.specs.Maps.{point, point_in, point_limit}
use Rattle.model.specs.Outlines.{outline_text, joined, corner_points}
use Rattle.corners.specs.declared.listing.CornerList.{CornerList}
use Rattle.corners.specs.Listing.{ListsCorners, listed}
use Rattle.drawings.specs.Positions.{points_at, next_text}
use Rattle.drawings.proofs.Joined.{joined_more, joined_most}

-- ---- by the number of corners

pub text_none : (ps : List Point) (corners : List ℕ) → length corners ≡ 0 →
    outline_text (points_at ps corners) ≡ bytes "POLYGON EMPTY"
unfolding outline_text
text_none ps [] e = refl
text_none ps (a ∷ s) e = absurd (omega arith)

-- all corners but the first, as the code takes them
abbrev pub others : List ℕ → List ℕ
others corners = take (length corners - 1) (drop 1 corners)

others_are : (a : ℕ) (s : List ℕ) → others (a ∷ s) ≡ s
others_are a s = take_all (length (a ∷ s) - 1) s (omega arith)

-- where p was read for the first corner
module _ (ps : List Point) where
  pub text_one : (corners : List ℕ) {p : Point} → p ≡ point_in ps (get_or corners 0 0) →
      length corners ≡ 1 →
      outline_text (points_at ps corners)
      ≡ bytes "POINT (" ++ joined p (points_at ps (others corners)) ++ bytes ")"
  unfolding outline_text
  text_one [] read e = absurd (omega arith)
  text_one (a ∷ []) read e = rw read
  text_one (a ∷ b ∷ s) read e = absurd (omega arith)

  pub text_two : (corners : List ℕ) {p : Point} → p ≡ point_in ps (get_or corners 0 0) →
      length corners ≡ 2 →
      outline_text (points_at ps corners)
      ≡ bytes "LINESTRING (" ++ joined p (points_at ps (others corners)) ++ bytes ")"
  unfolding outline_text
  text_two [] read e = absurd (omega arith)
  text_two (a ∷ []) read e = absurd (omega arith)
  text_two (a ∷ b ∷ []) read e = rw read
  text_two (a ∷ b ∷ c ∷ s) read e = absurd (omega arith)

  pub text_more : (corners : List ℕ) {p : Point} → p ≡ point_in ps (get_or corners 0 0) →
      3 ≤ length corners →
      outline_text (points_at ps corners)
      ≡ bytes "POLYGON ((" ++ joined p (points_at ps (others corners)) ++ next_text p
      ++ bytes "))"
  unfolding outline_text
  text_more [] read h = absurd (omega arith)
  text_more (a ∷ []) read h = absurd (omega arith)
  text_more (a ∷ b ∷ []) read h = absurd (omega arith)
  text_more (a ∷ b ∷ c ∷ s) read h =
      let p = point_in ps a in
      let rest = points_at ps (b ∷ c ∷ s) in
      rw (read, others_are a (b ∷ c ∷ s))
      (ap (λ (l : List ℕ). bytes "POLYGON ((" ++ l ++ bytes "))") (joined_more p rest p)
      ∙ ap (λ (l : List ℕ). l ++ bytes "))")
      (sym (append_assoc (bytes "POLYGON ((") (joined p rest) (next_text p))))

-- ---- how long it is

pub length_three : (s t u : List ℕ) → length (s ++ t ++ u) ≡ length s + length t + length u
length_three s t u = omega (arith, length-append (s ++ t) u, length-append s t)

pub others_few : (corners : List ℕ) → length corners ≤ point_limit →
    length (others corners) ≤ point_limit
others_few corners h =
    omega (arith, length-take (length corners - 1) (drop 1 corners), length-drop 1 corners)

pub positions_most : (ps : List Point) (p : Point) (corners : List ℕ) →
    length corners ≤ point_limit →
    length (joined p (points_at ps (others corners))) ≤ 43 + 45 * point_limit
positions_most ps p corners h =
    omega (
      arith,
      joined_most p (points_at ps (others corners)),
      length-map (others corners) (point_in ps),
      others_few corners h,
    )

-- ---- of a map's corners

module _ {m : Map} {list : CornerList} (l : ListsCorners m list) where
  pub listed_text : outline_text (points_at m.points (listed list)) ≡ outline_text (corner_points m)
  unfolding corner_points point
  listed_text = ap (λ (s : List ℕ). outline_text (points_at m.points s)) l.members
