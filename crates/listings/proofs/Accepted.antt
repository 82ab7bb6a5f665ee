-- Which texts are accepted, in the order of this page: how long the text of a survey's outline is; what is
-- known of a text that no rule refuses; `accepted_iff`: where the lent list is long enough, a text is accepted
-- if and only if some survey would write it; `written_back`: the survey of the corners that are read writes
-- the same bytes. Request 101.
use mathlib.Core.Path.{◌≡◌, refl, sym, ap, subst, ◌∙◌}
use mathlib.Core.Logic.{◌↔◌}
use mathlib.Core.List.{List}
use mathlib.Core.Option.{Option, none, some}
use Prim.Native.Nat.{ℕ, ◌≤◌}
use native.Mathlib.Omega.{arith}
use borrow.Author.Tests.{le-ltb}
use lib.Dec.{T, T_not}
use lib.IntN.{ℤ}
use lib.ListN.{length, get_or}
use Rattle.finite.specs.Tests.{not_not}
use Rattle.finite.specs.Lists.{all_in}
use Rattle.finite.specs.ListLaws.{all_in_at, all_in_by}
use Rattle.model.specs.declared.Point.{Point}
use Rattle.model.specs.Refusals.{NoneApplies, nor}
use Rattle.model.specs.Refusals as refusals
use Rattle.model.specs.Plane.{in_range, origin}
use Rattle.model.specs.Maps.{point_limit}
use Rattle.model.specs.Lent.{writing}
use Rattle.model.specs.Report.{text_limit}
use Rattle.model.specs.History.{run}
use Rattle.model.specs.Outlines.{coordinates, corner_points, corners_in, corners_spelt, is_outline, is_some, listable, or_none, outline_rules, outline_text}
use Rattle.hull.proofs.History.{run_shaped}
use Rattle.corners.proofs.Listings.{listable_holds, listing_listable, listable_listing}
use Rattle.positions.proofs.PositionLaws.{few_digits}
use Rattle.polygons.proofs.RoundTrip.{text_read, read_text}
use Rattle.polygons.proofs.Few.{range_few, text_short}

-- some survey would write the text
abbrev pub Surveyed : List ℕ → Type 0
Surveyed t = (ps : List Point) × (outline_text (corner_points (run ps).map) ≡ t)

-- ---- what a survey writes

all_few : (cs : List Point) → T (all_in in_range cs) → T (all_in few_digits cs)
all_few cs ranged =
    all_in_by few_digits cs origin (λ k h. range_few (get_or cs k origin) (all_in_at in_range cs ranged k origin h))

-- at most 12,835 bytes
pub outline_short : (cs : List Point) → T (all_in in_range cs) → length cs ≤ point_limit →
    length (outline_text cs) ≤ 12_835
outline_short cs ranged few = omega (arith, text_short cs (all_few cs ranged), few)

-- ---- a text that no rule refuses

-- it spells its corners
spells : (t : List ℕ) → T (is_outline t) → corners_in t ≡ some (corners_spelt t)
unfolding is_outline corners_spelt is_some or_none
spells t h = go (corners_in t) h
  where
    go : (m : Option (List Point)) → T (is_some m) → m ≡ some (or_none m)
    go none h = absurd h
    go (some cs) h = refl

module _ (t : List ℕ) where
  abbrev cs : List Point
  cs = corners_spelt t

  -- what the rules say, by the first four of them
  record Passes : Type 0 where
    in_form : T (is_outline t)
    ranged : T (all_in in_range cs)
    listed : T (listable cs)

  passes : NoneApplies (outline_rules t) → Passes
  passes (nor long (nor malformed (nor far (nor unlisted refusals.none)))) =
      record {
        in_form = not_not (is_outline t) malformed;
        ranged = not_not (all_in in_range cs) far;
        listed = not_not (listable cs) unlisted;
      }

  -- "and it then writes back the same bytes": the corners that are read, and the survey of them
  pub corners_written : NoneApplies (outline_rules t) → outline_text (corners_spelt t) ≡ t
  corners_written n = read_text t cs (spells t (passes n).in_form)

  pub written_back : NoneApplies (outline_rules t) → outline_text (corner_points (run (corners_spelt t)).map) ≡ t
  written_back n =
      ap outline_text (listable_listing cs (passes n).ranged (passes n).listed) ∙ corners_written n

  -- ---- what a survey writes is accepted

  module _ (ps : List Point) (is : outline_text (corner_points (run ps).map) ≡ t) where
    abbrev listing : List Point
    listing = corner_points (run ps).map

    ranged_listing : T (all_in in_range listing)
    ranged_listing = (listing_listable (run_shaped ps)).0

    listed_listing : T (listable listing)
    listed_listing = (listing_listable (run_shaped ps)).1

    read_is : corners_in t ≡ some listing
    read_is = ap corners_in (sym is) ∙ text_read listing (all_few listing ranged_listing)

    spelt_is : cs ≡ listing
    unfolding corners_spelt or_none
    spelt_is = ap or_none read_is

    in_form_is : T (is_outline t)
    unfolding is_outline is_some
    in_form_is = subst (λ (m : Option (List Point)). T (is_some m)) (sym read_is) tt

    not_long : length t ≤ text_limit
    not_long =
        omega (
          arith,
          ap length is,
          outline_short listing ranged_listing (listable_holds listing listed_listing).few,
        )

    none_refuses : NoneApplies (outline_rules t)
    none_refuses =
        nor (λ h. subst T (le-ltb text_limit (length t) not_long) h)
        (nor (λ h. T_not (is_outline t) h in_form_is)
        (nor (λ h. T_not (all_in in_range cs) h (rw spelt_is ranged_listing))
        (nor (λ h. T_not (listable cs) h (rw spelt_is listed_listing))
        refusals.none)))

  -- ---- the theorem

  module _ (lent : List ℤ) where
    abbrev result : List ℤ
    result = coordinates cs

    -- no rule applies, number 10 among them
    abbrev pub Accepted : Type 0
    Accepted = NoneApplies (writing (outline_rules t) result lent).rules

    without_10 : Accepted → NoneApplies (outline_rules t)
    without_10 (nor long (nor malformed (nor far (nor unlisted n)))) =
        nor long (nor malformed (nor far (nor unlisted refusals.none)))

    with_10 : length result ≤ length lent → NoneApplies (outline_rules t) → Accepted
    with_10 room (nor long (nor malformed (nor far (nor unlisted refusals.none)))) =
        nor long
        (nor malformed
        (nor far
        (nor unlisted (nor (λ h. subst T (le-ltb (length lent) (length result) room) h) refusals.none))))

    pub accepted_iff : length result ≤ length lent → Accepted ↔ Surveyed t
    accepted_iff room = (
      λ a. (corners_spelt t, written_back (without_10 a)),
      λ w. with_10 room (none_refuses w.0 w.1),
    )
