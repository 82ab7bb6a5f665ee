-- How a sound map is put together from its points, its links and a circuit: a map with a circuit that
-- begins with the reference's point, on which every closed part lies, and whose edges have all other
-- points beside them, is sound; so is one with fewer than two points, no helper and no reference.
use mathlib.Core.Path.{◌≡◌}
use mathlib.Core.List.{List}
use Prim.Native.Nat.{ℕ, ◌≤◌, ◌<◌}
use native.Mathlib.Omega.{arith}
use lib.Dec.{T}
use Rattle.finite.specs.Lists.{elem}
use Rattle.orbits.proofs.ClosedWalks.{ClosedPart, OneClosed, one_closed_by}
use Rattle.model.specs.declared.Map.{Map}
use Rattle.model.specs.Maps.{owner, is_own, is_present, edge_link, point_link, dart_bound}
use Rattle.model.specs.Outline.{outline}
use Rattle.model.specs.Shape.{ShapedPoints, ShapedLinks, ShapedNotes, AllBeside, Bare, Shaped}
use Rattle.maps.proofs.Links.{Linked, DartOf, links_symmetric}
use Rattle.maps.proofs.Circuits.{Circuit, circuit_dart, circuit_reach, circuit_closed, circuit_closed_part}

pub links_linked : {m : Map} → ShapedLinks m → Linked m
links_linked l = record { present = l.present; undone = l.undone }

-- fewer than two points
pub sound_without_outline : {m : Map} → ShapedPoints m → ShapedLinks m → ShapedNotes m → m.count < 2 → Bare m → Shaped m
sound_without_outline p l n few bare =
    record { points = p; links = l; notes = n; outlined = λ two. absurd (omega arith); bare = λ h. bare }

-- two points or more: the circuit is the outline
pub sound_with_outline : {m : Map} → ShapedPoints m → ShapedLinks m → ShapedNotes m → 2 ≤ m.count → (s : List ℕ) → Circuit m s →
    outline m ≡ s → T (is_own m.reference) → T (elem (owner m.reference) s) →
    ((d : ℕ) → DartOf m d → ClosedPart (edge_link m) (point_link m) d → T (elem (owner d) s)) → AllBeside m s → Shaped m
sound_with_outline {m} p l n two s c e own_dart first every others =
    record {
      points = p;
      links = l;
      notes = n;
      outlined =
          λ h.
          record {
            one_walk = one_closed_by (links_symmetric linked) one;
            reference_own = own_dart;
            reference_present = (circuit_dart c m.reference first).is_present;
            reference_closed = circuit_closed linked c m.reference first;
            others = rw e others;
          };
      bare = λ few. absurd (omega arith);
    }
  where
    linked : Linked m
    linked = links_linked l

    one : OneClosed (dart_bound m) (is_present m) (edge_link m) (point_link m) m.reference
    one =
        record {
          dart = circuit_dart c m.reference first;
          closed = circuit_closed_part linked c m.reference first;
          every = λ d h o. circuit_reach linked c m.reference d first (every d h o);
        }
