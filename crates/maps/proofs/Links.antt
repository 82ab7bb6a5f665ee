-- The two links, in the order of this page: maps whose edge link undoes itself and keeps the present
-- darts, as every sound map's does; there both links are involutions of the present darts, so the
-- counts balance; in a sound map, where an edge that moves a dart leads.
use mathlib.Core.Path.{◌≡◌, subst}
use mathlib.Core.Logic.{◌≢◌, ⊎_elim}
use mathlib.Core.List.{List}
use Prim.Native.Nat.{ℕ, ◌+◌, ◌*◌}
use native.Mathlib.Omega.{arith}
use lib.Dec.{T, T_not}
use Rattle.finite.specs.Tests.{decide}
use Rattle.orbits.specs.Reach.{by_two}
use Rattle.orbits.proofs.Reach.{Dart, Keeps, Symmetric}
use Rattle.orbits.proofs.Permutations.{Involutes, involution_permutes, part_symmetric}
use Rattle.orbits.proofs.Balance.{balance}
use Rattle.model.specs.declared.Kind.{Kind}
use Rattle.model.specs.declared.Map.{Map}
use Rattle.model.specs.Maps.{own, helper, owner, has_helper, is_present, edge_link, point_link, face_link, dart_bound}
use Rattle.model.specs.Outline.{next_corner}
use Rattle.model.specs.Reading.{links_of, number_of, darts}
use Rattle.model.specs.Shape.{Shaped}
use Rattle.model.proofs.Shape.{moved_present}
use Rattle.maps.proofs.Darts.{own_or_helper, present_helper, present_dart, point_twice, point_present}

-- the edge link undoes itself and keeps the present darts
pub record Linked (m : Map) : Type 0 where
  pub present : (d : ℕ) → T (is_present m d) → T (is_present m (edge_link m d))
  pub undone : (d : ℕ) → edge_link m (edge_link m d) ≡ d

pub sound_linked : {m : Map} → Shaped m → Linked m
sound_linked s = record { present = s.links.present; undone = s.links.undone }

-- the darts that lie one link away
abbrev pub links : Map → ℕ → List ℕ
links m = by_two (edge_link m) (point_link m)

-- the present darts
abbrev pub DartOf : Map → ℕ → Type 0
DartOf m = Dart (dart_bound m) (is_present m)

pub point_involutes : (m : Map) → Involutes (dart_bound m) (is_present m) (point_link m)
point_involutes m =
    record {
      stays = λ {d} h. present_dart m (point_link m d) (point_present m d h.is_present);
      twice = λ {d} h. point_twice m d;
    }

module _ {m : Map} (l : Linked m) where
  pub edge_involutes : Involutes (dart_bound m) (is_present m) (edge_link m)
  edge_involutes =
      record {
        stays = λ {d} h. present_dart m (edge_link m d) (l.present d h.is_present);
        twice = λ {d} h. l.undone d;
      }

  pub edge_injective : {c d : ℕ} → edge_link m c ≡ edge_link m d → c ≡ d
  edge_injective {c} {d} e = cc (l.undone c, l.undone d)

  pub links_symmetric : Symmetric (dart_bound m) (is_present m) (links m)
  links_symmetric = part_symmetric (involution_permutes edge_involutes) (involution_permutes (point_involutes m))

  pub links_keep : Keeps (dart_bound m) (is_present m) (links m)
  links_keep = links_symmetric.keeps

-- ---- in a sound map

module _ {m : Map} (s : Shaped m) where
  -- vertices + edges + faces = darts + 2 × parts
  pub counts_balance :
      number_of m Kind.Vertex + number_of m Kind.Edge + number_of m Kind.Face ≡ darts m + 2 * number_of m Kind.Part
  unfolding number_of links_of darts face_link
  counts_balance = balance (edge_involutes (sound_linked s)) (point_involutes m)

  -- a helper that is moved belongs to a point that has one
  pub moved_helper_owned : (a : ℕ) → edge_link m (helper a) ≢ helper a → T (has_helper m a)
  moved_helper_owned a moves =
      present_helper m a (moved_present m s.links.absent (helper a) moves)

  -- an own dart that is moved belongs to a point with a helper ..
  pub moved_own_owned : (a : ℕ) → edge_link m (own a) ≢ own a → T (has_helper m a)
  moved_own_owned a moves =
      ⊎_elim (λ t. t) (λ t. absurd (moves (s.links.lone a (T_not (has_helper m a) t)))) (decide (has_helper m a))

  -- .. and is linked with the helper of the next corner, which is another point
  pub moved_own : (a : ℕ) → edge_link m (own a) ≢ own a → edge_link m (own a) ≡ helper (next_corner m a)
  unfolding next_corner
  moved_own a moves =
      ⊎_elim
      (λ (e : edge_link m (own a) ≡ own (owner (edge_link m (own a)))).
      absurd (omega (arith, s.links.crossing (own a) moves)))
      (λ e. e) (own_or_helper (edge_link m (own a)))

  pub next_another : (a : ℕ) → edge_link m (own a) ≢ own a → next_corner m a ≢ a
  unfolding next_corner
  next_another a moves = omega (arith, s.links.leaving (own a) moves)

  -- the edge link of a dart that is moved is moved
  pub moved_back : (d : ℕ) → edge_link m d ≢ d → edge_link m (edge_link m d) ≢ edge_link m d
  moved_back d moves e = moves (edge_injective (sound_linked s) e)

  pub next_owned : (a : ℕ) → edge_link m (own a) ≢ own a → T (has_helper m (next_corner m a))
  next_owned a moves =
      moved_helper_owned (next_corner m a)
      (subst (λ (d : ℕ). edge_link m d ≢ d) (moved_own a moves) (moved_back (own a) moves))
