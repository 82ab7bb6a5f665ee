-- The order in which each call looks at its rules, as the numbers of document 01's table: one computed
-- test for each list of rules. "The lowest number that applies is given; loading looks at 7 before 1."; document
-- 02, request 101, gives the places of 11 and 12.
use Rattle.std.specs.Prelude.{◌≡◌, List, [], ◌∷◌, map, ℕ, ℤ}
use Rattle.std.proofs.Math.Path.{refl}
use Rattle.model.specs.declared.Point.{Point}
use Rattle.model.specs.declared.Map.{Map}
use Rattle.model.specs.declared.Kind.{Kind}
use Rattle.model.specs.declared.Link.{Link}
use Rattle.model.specs.Refusals.{number, Rule}
use Rattle.model.specs.Plane.{orientation_call}
use Rattle.model.specs.Outline.{corners}
use Rattle.model.specs.Reading.{unsound, counts_call, orbit_call, walk_call, walker_call}
use Rattle.model.specs.Offers.{offer_call}
use Rattle.model.specs.Removal.{remove_call}
use Rattle.model.specs.Placing.{place_call}
use Rattle.model.specs.Lent.{writing}
use Rattle.model.specs.Saved.{saved, load_call}
use Rattle.model.specs.Text.{line_call}
use Rattle.model.specs.Report.{report_rules, report}
use Rattle.model.specs.Outlines.{coordinates, corner_points, corners_spelt, outline_rules, outline_text}
use Rattle.model.specs.Area.{area_call}
use Rattle.model.specs.Building.{building_rules}
use Rattle.model.specs.Marking.{mark_call}

abbrev pub numbers_of : List Rule → List ℕ
numbers_of rules = map (λ rule. number rule.refusal) rules

module _ (m : Map) (p q r : Point) (kind : Kind) (link : Link) (d : ℕ) (s lent : List ℕ) (coordinates_lent : List ℤ) where
  pub orientation_order : numbers_of (orientation_call p q r).rules ≡ 3 ∷ []
  unfolding number
  orientation_order = refl

  pub offer_order : numbers_of (offer_call m p).rules ≡ 1 ∷ 2 ∷ 3 ∷ 4 ∷ []
  unfolding number
  offer_order = refl

  -- "13, after 1"
  pub remove_order : numbers_of (remove_call m).rules ≡ 1 ∷ 13 ∷ []
  unfolding number
  remove_order = refl

  pub counts_order : numbers_of (counts_call m).rules ≡ 1 ∷ []
  unfolding number
  counts_order = refl

  pub orbit_order : numbers_of (orbit_call m kind d).rules ≡ 1 ∷ 6 ∷ []
  unfolding number
  orbit_order = refl

  pub walk_order : numbers_of (walk_call m d).rules ≡ 1 ∷ 6 ∷ []
  unfolding number
  walk_order = refl

  pub walker_order : numbers_of (walker_call m link d).rules ≡ 1 ∷ 6 ∷ []
  unfolding number
  walker_order = refl

  pub place_order : numbers_of (place_call m p).rules ≡ 1 ∷ 3 ∷ []
  unfolding number
  place_order = refl

  pub list_order : numbers_of (writing (unsound m ∷ []) (corners m) lent).rules ≡ 1 ∷ 10 ∷ []
  unfolding number
  list_order = refl

  pub save_order : numbers_of (writing (unsound m ∷ []) (saved m) lent).rules ≡ 1 ∷ 10 ∷ []
  unfolding number
  save_order = refl

  pub load_order : numbers_of (load_call s).rules ≡ 7 ∷ 1 ∷ []
  unfolding number
  load_order = refl

  pub line_order : numbers_of (line_call s).rules ≡ 8 ∷ []
  unfolding number
  line_order = refl

  pub report_order : numbers_of (writing (report_rules s) (report s) lent).rules ≡ 9 ∷ 10 ∷ []
  unfolding number
  report_order = refl

  pub write_outline_order :
      numbers_of (writing (unsound m ∷ []) (outline_text (corner_points m)) lent).rules ≡ 1 ∷ 10 ∷ []
  unfolding number
  write_outline_order = refl

  -- "11, after 9 and before 3 ..; 12, after 3 and before 10"
  pub read_outline_order :
      numbers_of (writing (outline_rules s) (coordinates (corners_spelt s)) coordinates_lent).rules
      ≡ 9 ∷ 11 ∷ 3 ∷ 12 ∷ 10 ∷ []
  unfolding number
  read_outline_order = refl

  pub area_order : numbers_of (area_call m d).rules ≡ 1 ∷ 6 ∷ []
  unfolding number
  area_order = refl

  -- "the first refusal met": all of a point's before those of the next
  pub mark_order : numbers_of (mark_call (p ∷ q ∷ []) s).rules ≡ 2 ∷ 3 ∷ 4 ∷ 2 ∷ 3 ∷ 4 ∷ []
  unfolding number building_rules
  mark_order = refl
