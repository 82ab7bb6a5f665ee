-- Outlines as text, in the order of this page: how corners are written; a word at the front of a text;
-- a position, and positions one after another; the corners that a text spells; the corners that some
-- survey lists; why a text is refused, and what is read of one that is not.
-- Document 02, request 101: "Write the corners as POLYGON ((0 0, 4 0, 6 7, 1 3, 0 0)), the first corner
-- repeated; one point as POINT (0 0), two as LINESTRING (0 0, 4 0), none as POLYGON EMPTY. Read the same
-- spelling, and only that, into a corner list." A position (the field's word) is a point as it is written.
use Rattle.std.specs.Prelude.{Bool, true, false, not, cond, ◌&&◌, List, [], ◌∷◌, ◌++◌, map, ℕ, zero, suc, ◌+◌, ◌-◌, ◌%◌, leb, ltb, eqb, ℤ, length, get_or, take, drop}
use Rattle.std.proofs.Math.Option.{Option, none, some}
use Rattle.finite.specs.Tests.{◌⇒◌}
use Rattle.finite.specs.Bounded.{all}
use Rattle.finite.specs.Lists.{all_in}
use Rattle.model.specs.declared.Refusal.{Refusal}
use Rattle.model.specs.declared.Point.{Point}
use Rattle.model.specs.declared.Map.{Map}
use Rattle.model.specs.Spelling.{bytes, space, spelt}
use Rattle.model.specs.Refusals.{Rule, ◌when◌}
use Rattle.model.specs.Plane.{at, origin, in_range, same_point, beside, lower}
use Rattle.model.specs.Maps.{point_limit, point}
use Rattle.model.specs.Outline.{corners}
use Rattle.model.specs.Text.{front, is_number, number_value}
use Rattle.model.specs.Report.{text_limit}

-- ---- writing

unfoldable pub point_text : Point → List ℕ
point_text p = spelt p.x ++ space ∷ spelt p.y

-- a point and those that follow it, with a comma and a space between
unfoldable pub joined : Point → List Point → List ℕ
joined p [] = point_text p
joined p (q ∷ s) = point_text p ++ bytes ", " ++ joined q s

-- by the number of corners, not of points
unfoldable pub outline_text : List Point → List ℕ
outline_text [] = bytes "POLYGON EMPTY"
outline_text (p ∷ []) = bytes "POINT (" ++ joined p [] ++ bytes ")"
outline_text (p ∷ q ∷ []) = bytes "LINESTRING (" ++ joined p (q ∷ []) ++ bytes ")"
outline_text (p ∷ q ∷ r ∷ s) = bytes "POLYGON ((" ++ joined p (q ∷ r ∷ s ++ p ∷ []) ++ bytes "))"

-- the corners of a map as points, in listing order
unfoldable pub corner_points : Map → List Point
corner_points m = map (point m) (corners m)

-- ---- words

-- the word stands at the front of the text
unfoldable pub starts_with : List ℕ → List ℕ → Bool
starts_with [] t = true
starts_with (b ∷ w) [] = false
starts_with (b ∷ w) (c ∷ t) = eqb b c && starts_with w t

-- the text is the word
unfoldable pub is_word : List ℕ → List ℕ → Bool
is_word w t = starts_with w t && eqb (length w) (length t)

-- ---- positions

-- what stands after the number at the front of a text and one byte more
unfoldable pub second : List ℕ → List ℕ
second s = drop (suc (length (front s))) s

-- a position at the front of a text: a number, a space and a number; its point; what stands after it
unfoldable pub is_position : List ℕ → Bool
is_position s =
    is_number (front s) && eqb (get_or s (length (front s)) 0) space && is_number (front (second s))

unfoldable pub position : List ℕ → Point
position s = at (number_value (front s)) (number_value (front (second s)))

unfoldable pub after_position : List ℕ → List ℕ
after_position s = drop (length (front (second s))) (second s)

unfoldable pub with_first : Point → Option (List Point) → Option (List Point)
with_first p none = none
with_first p (some s) = some (p ∷ s)

-- positions with a comma and a space between, then the closing word and no more; at most k of them,
-- and a text has fewer positions than bytes
unfoldable pub positions : ℕ → List ℕ → List ℕ → Option (List Point)
positions zero closing s = none
positions (suc k) closing s =
    let rest = after_position s in
    let more = with_first (position s) (positions k closing (drop 2 rest)) in
    let last = cond (is_word closing rest) (some (position s ∷ [])) none in
    cond (is_position s) (cond (starts_with (bytes ", ") rest) more last) none

-- ---- the corners that a text spells

-- the positions of a text between its first word and its closing
unfoldable pub positions_in : List ℕ → List ℕ → List ℕ → Option (List Point)
positions_in opening closing t = let s = drop (length opening) t in positions (length s) closing s

-- just so many
unfoldable pub exactly : ℕ → Option (List Point) → Option (List Point)
exactly n none = none
exactly n (some s) = cond (eqb (length s) n) (some s) none

-- three or more and then the first again, which is left out
unfoldable pub ring_of : Option (List Point) → Option (List Point)
ring_of none = none
ring_of (some s) =
    let n = length s - 1 in
    cond (leb 3 n && same_point (get_or s 0 origin) (get_or s n origin)) (some (take n s)) none

-- "text in another spelling, a ring that does not end on its first corner, or a ring of under three
-- corners" spells none
unfoldable pub corners_in : List ℕ → Option (List Point)
corners_in t =
    let point = exactly 1 (positions_in (bytes "POINT (") (bytes ")") t) in
    let line = exactly 2 (positions_in (bytes "LINESTRING (") (bytes ")") t) in
    let polygon = ring_of (positions_in (bytes "POLYGON ((") (bytes "))") t) in
    cond (is_word (bytes "POLYGON EMPTY") t) (some [])
    (cond (starts_with (bytes "POINT (") t) point
    (cond (starts_with (bytes "LINESTRING (") t) line
    (cond (starts_with (bytes "POLYGON ((") t) polygon none)))

unfoldable pub is_some : Option (List Point) → Bool
is_some none = false
is_some (some s) = true

unfoldable pub or_none : Option (List Point) → List Point
or_none none = []
or_none (some s) = s

-- whether it spells corners, and these
unfoldable pub is_outline : List ℕ → Bool
is_outline t = is_some (corners_in t)

unfoldable pub corners_spelt : List ℕ → List Point
corners_spelt t = or_none (corners_in t)

-- ---- the corners that some survey lists

-- the first comes before every other one in "the smallest y, then the smallest x"
unfoldable pub lowest_is_first : List Point → Bool
lowest_is_first cs = all (length cs) (λ k. not (eqb k 0) ⇒ lower (get_or cs 0 origin) (get_or cs k origin))

-- every other one lies beside the edge from each of them to the next one round
unfoldable pub all_support : List Point → Bool
all_support cs =
    all (length cs)
    (λ a.
    let b = (a + 1) % length cs in
    all (length cs)
    (λ c. not (eqb c a) && not (eqb c b) ⇒ beside (get_or cs a origin) (get_or cs b origin) (get_or cs c origin)))

-- that these, with coordinates in range, are just the listings of surveys is `listed_iff` of
-- corners/proofs/Listings
unfoldable pub listable : List Point → Bool
listable cs = leb (length cs) point_limit && lowest_is_first cs && all_support cs

-- ---- the call

-- "11, after 9 and before 3 ..; 12, after 3 and before 10, for corners that no survey lists in that order"
abbrev pub outline_rules : List ℕ → List Rule
outline_rules t =
    (Refusal.LongText when ltb text_limit (length t))
    ∷ (Refusal.BadOutline when not (is_outline t))
    ∷ (Refusal.OutOfRange when not (all_in in_range (corners_spelt t)))
    ∷ (Refusal.NoSurvey when not (listable (corners_spelt t)))
    ∷ []

-- a corner list as it is read: x and y in turn
unfoldable pub coordinates : List Point → List ℤ
coordinates [] = []
coordinates (p ∷ s) = p.x ∷ p.y ∷ coordinates s
