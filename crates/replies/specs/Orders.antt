-- The order in which each exported function looks at its rules, as the numbers of document 01's
-- table: one computed test for each function, as model/specs/Orders has them for the engine's
-- calls. Number 7 comes first where a map comes as a file, and number 10 last where a list is lent:
-- "The lowest number that applies is given; loading looks at 7 before 1."
use Rattle.std.specs.Prelude.{◌≡◌, Bool, List, [], ◌∷◌, ℕ}
use Rattle.std.proofs.Math.Path.{refl}
use Rattle.model.specs.declared.Point.{Point}
use Rattle.model.specs.declared.Kind.{Kind}
use Rattle.model.specs.declared.Link.{Link}
use Rattle.model.specs.Refusals.{number, Rule}
use Rattle.model.specs.Orders.{numbers_of}
use Rattle.model.specs.Plane.{orientation_call}
use Rattle.model.specs.Maps.{empty_map}
use Rattle.model.specs.Reading.{unsound}
use Rattle.model.specs.Offers.{offer_call}
use Rattle.model.specs.Saved.{load_call, saved}
use Rattle.model.specs.Text.{line_call}
use Rattle.model.specs.Report.{report_rules}
use Rattle.model.specs.Outlines.{outline_rules}
use Rattle.model.specs.Building.{building_rules}
use Rattle.model.specs.Lent.{and_short}
use Rattle.replies.specs.Served.{Reply, only}
use Rattle.replies.specs.Opened.{of_file}
use Rattle.replies.specs.Replies.{values_of, reply, from_file, counts_reply, orbit_reply}
use Rattle.replies.specs.Replies.{walk_reply, walker_reply, place_reply, area_reply, mark_reply, removal_reply}

-- the numbers of rules with number 10 after them, whether a lent list is short or not
module _ (short : Bool) where
  abbrev with_10 : List Rule → List ℕ
  with_10 rules = numbers_of (and_short rules short)

  abbrev replied : {A : Type 0} → Reply A → List ℕ
  replied q = with_10 q.rules

  module _ (s : List ℕ) (p q r : Point) (kind : Kind) (link : Link) (d : ℕ) where
    pub reach_orientation_order : replied (reply values_of (orientation_call p q r)) ≡ 3 ∷ 10 ∷ []
    unfolding number
    reach_orientation_order = refl

    pub reach_empty_order : replied (only (saved empty_map)) ≡ 10 ∷ []
    unfolding number
    reach_empty_order = refl

    pub reach_check_order : numbers_of (load_call s).rules ≡ 7 ∷ 1 ∷ []
    unfolding number
    reach_check_order = refl

    pub reach_load_order : with_10 (of_file s (λ m. unsound m ∷ [])) ≡ 7 ∷ 1 ∷ 10 ∷ []
    unfolding number
    reach_load_order = refl

    pub reach_offer_order :
        with_10 (of_file s (λ m. (offer_call m p).rules)) ≡ 7 ∷ 1 ∷ 2 ∷ 3 ∷ 4 ∷ 10 ∷ []
    unfolding number
    reach_offer_order = refl

    pub reach_remove_order : replied (from_file removal_reply s) ≡ 7 ∷ 1 ∷ 13 ∷ 10 ∷ []
    unfolding number
    reach_remove_order = refl

    pub reach_counts_order : replied (from_file counts_reply s) ≡ 7 ∷ 1 ∷ 10 ∷ []
    unfolding number
    reach_counts_order = refl

    -- of every kind
    pub reach_orbit_order : replied (from_file (orbit_reply kind d) s) ≡ 7 ∷ 1 ∷ 6 ∷ 10 ∷ []
    unfolding number
    reach_orbit_order = refl

    pub reach_walk_order : replied (from_file (walk_reply d) s) ≡ 7 ∷ 1 ∷ 6 ∷ 10 ∷ []
    unfolding number
    reach_walk_order = refl

    -- moved by either link, or by none
    pub reach_walker_order : replied (from_file (walker_reply link d) s) ≡ 7 ∷ 1 ∷ 6 ∷ 10 ∷ []
    unfolding number
    reach_walker_order = refl

    pub reach_place_order : replied (from_file (place_reply p) s) ≡ 7 ∷ 1 ∷ 3 ∷ 10 ∷ []
    unfolding number
    reach_place_order = refl

    pub reach_corners_order : with_10 (of_file s (λ m. unsound m ∷ [])) ≡ 7 ∷ 1 ∷ 10 ∷ []
    unfolding number
    reach_corners_order = refl

    pub reach_line_order : replied (reply values_of (line_call s)) ≡ 8 ∷ 10 ∷ []
    unfolding number
    reach_line_order = refl

    pub reach_report_order : with_10 (report_rules s) ≡ 9 ∷ 10 ∷ []
    unfolding number
    reach_report_order = refl

    pub reach_write_outline_order : with_10 (of_file s (λ m. unsound m ∷ [])) ≡ 7 ∷ 1 ∷ 10 ∷ []
    unfolding number
    reach_write_outline_order = refl

    pub reach_read_outline_order : with_10 (outline_rules s) ≡ 9 ∷ 11 ∷ 3 ∷ 12 ∷ 10 ∷ []
    unfolding number
    reach_read_outline_order = refl

    pub reach_area_order : replied (from_file (area_reply d) s) ≡ 7 ∷ 1 ∷ 6 ∷ 10 ∷ []
    unfolding number
    reach_area_order = refl

    -- of two points
    pub reach_mark_order : replied (mark_reply (p ∷ q ∷ []) s) ≡ 2 ∷ 3 ∷ 4 ∷ 2 ∷ 3 ∷ 4 ∷ 10 ∷ []
    unfolding number building_rules
    reach_mark_order = refl
