-- "The empty map, which is the sound map without points": what stands at each of its places, and that it is
-- shaped.
use mathlib.Core.Path.{◌≡◌, refl, ◌∙◌}
use mathlib.Core.Logic.{⊎_elim}
use mathlib.Core.Bool.{false}
use Prim.Native.Nat.{ℕ, ◌≤◌, ◌<◌}
use native.Mathlib.Omega.{arith}
use lib.Dec.{T}
use lib.ListN.{length-replicate, get_or-eq_default}
use Rattle.finite.specs.Bounded.{table, lt_or_ge, length_table, get_or_table}
use Rattle.finite.specs.ListLaws.{replicate_at}
use Rattle.orbits.specs.Sets.{dart_limit}
use Rattle.model.specs.Plane.{origin}
use Rattle.model.specs.Maps.{point_limit, point, has_helper, is_present, edge_link, note, no_note, empty_map}
use Rattle.model.specs.Shape.{ShapedPoints, ShapedLinks, ShapedNotes, Shaped}
use Rattle.maps.proofs.Darts.{present_owner}
use Rattle.maps.proofs.Soundness.{sound_without_outline}

empty_count : empty_map.count ≡ 0
unfolding empty_map
empty_count = refl

no_point : (k : ℕ) → point empty_map k ≡ origin
unfolding empty_map point
no_point k = replicate_at point_limit origin k

no_helper : (k : ℕ) → has_helper empty_map k ≡ false
unfolding empty_map has_helper
no_helper k = replicate_at point_limit false k

no_edge : (d : ℕ) → edge_link empty_map d ≡ d
unfolding empty_map edge_link
no_edge d =
    ⊎_elim (λ (h : d < dart_limit). get_or_table dart_limit (λ e. e) d d h)
    (λ (h : dart_limit ≤ d).
    get_or-eq_default (table dart_limit (λ e. e)) d (rw (length_table dart_limit (λ e. e)) h))
    (lt_or_ge d dart_limit)

none_noted : (k : ℕ) → note empty_map k ≡ no_note
unfolding empty_map note
none_noted k = replicate_at point_limit no_note k

no_dart_present : (d : ℕ) → ¬ T (is_present empty_map d)
no_dart_present d t = omega (arith, present_owner empty_map d t, empty_count)

no_helper_there : (k : ℕ) → ¬ T (has_helper empty_map k)
no_helper_there k t = rw (no_helper k) at t

empty_points : ShapedPoints empty_map
unfolding empty_map
empty_points =
    record {
      points_whole = length-replicate point_limit origin;
      ranged = λ k h. absurd (omega arith);
      distinct = λ j k l h. absurd (omega arith);
      vacant = λ k h. no_point k;
    }

empty_links : ShapedLinks empty_map
unfolding empty_map
empty_links =
    record {
      helpers_whole = length-replicate point_limit false;
      edge_whole = length_table dart_limit (λ d. d);
      fits = omega arith;
      owned = λ k t. absurd (no_helper_there k t);
      absent = λ d none. no_edge d;
      present = λ d t. absurd (no_dart_present d t);
      undone = λ d. no_edge (edge_link empty_map d) ∙ no_edge d;
      crossing = λ d moves. absurd (moves (no_edge d));
      leaving = λ d moves. absurd (moves (no_edge d));
      lone = λ k none. no_edge _;
    }

empty_notes : ShapedNotes empty_map
unfolding empty_map
empty_notes =
    record {
      notes_whole = length-replicate point_limit no_note;
      fitting = λ k.
          rw (none_noted k)
          (record { arrival_small = omega arith; left_small = omega arith; right_small = omega arith });
      unnoted = λ k h. none_noted k;
    }

pub empty_sound : Shaped empty_map
unfolding empty_map
empty_sound =
    sound_without_outline empty_points empty_links empty_notes (omega arith)
    (record { no_helper = no_helper_there; unreferenced = refl })
