-- Sound maps: two maps agree just where they are the same; a map is sound just where none of its points is
-- refused and they build it (`sound_is`, `sound_by`).
use mathlib.Core.Path.{◌≡◌, refl, sym, subst}
use mathlib.Core.Bool.{Bool, false, beq, ◌&&◌}
use lib.Dec.{T, eqb, eqb→eq, eqb_refl}
use Rattle.finite.specs.Tests.{beq_eq, beq_refl, and_left, and_right, and_both}
use Rattle.finite.specs.Lists.{same_by, same_list}
use Rattle.finite.specs.ListLaws.{same_by_eq, same_by_refl, same_list_eq, same_list_refl}
use Rattle.model.specs.declared.Note.{Note}
use Rattle.model.specs.declared.Map.{Map}
use Rattle.model.specs.Refusals.{NoneApplies}
use Rattle.model.specs.Plane.{same_point}
use Rattle.model.proofs.Shape.{same_point_eq, same_point_by}
use Rattle.model.specs.Maps.{empty_map, map_points}
use Rattle.model.specs.Building.{building_rules, built}
use Rattle.model.specs.Sound.{same_note, agree, sound}
use Rattle.model.proofs.Answers.{RulesDecide, refuses, serves, unless_decides, unless_none}

-- ---- maps that agree

pub same_note_eq : (n o : Note) → T (same_note n o) → n ≡ o
unfolding same_note
same_note_eq n o t =
    let arrivals = eqb n.arrival o.arrival in
    let lefts = eqb n.left o.left in
    let rights = eqb n.right o.right in
    let front = and_left (arrivals && lefts) rights t in
    let ea = eqb→eq n.arrival o.arrival (and_left arrivals lefts front) in
    let el = eqb→eq n.left o.left (and_right arrivals lefts front) in
    let er = eqb→eq n.right o.right (and_right (arrivals && lefts) rights t) in
    λ i. record { arrival = ea i; left = el i; right = er i }

pub same_note_refl : (n : Note) → T (same_note n n)
unfolding same_note
same_note_refl n =
    and_both (eqb n.arrival n.arrival && eqb n.left n.left) (eqb n.right n.right)
    (and_both (eqb n.arrival n.arrival) (eqb n.left n.left) (eqb_refl n.arrival) (eqb_refl n.left)) (eqb_refl n.right)

-- field by field
pub record Agrees (m n : Map) : Type 0 where
  pub counts : T (eqb m.count n.count)
  pub references : T (eqb m.reference n.reference)
  pub points : T (same_by same_point m.points n.points)
  pub helpers : T (same_by beq m.helpers n.helpers)
  pub edges : T (same_list m.edge n.edge)
  pub notes : T (same_by same_note m.notes n.notes)

pub agrees : (m n : Map) → T (agree m n) → Agrees m n
unfolding agree
agrees m n t = search (and_left, and_right) depth 12

pub agrees_by : (m n : Map) → Agrees m n → T (agree m n)
unfolding agree
agrees_by m n a = search and_both depth 12

agree_same : (m n : Map) → T (agree m n) → m ≡ n
agree_same m n t =
    let a = agrees m n t in
    λ i.
    record {
      points = same_by_eq same_point same_point_eq _ _ a.points i;
      helpers = same_by_eq beq beq_eq _ _ a.helpers i;
      edge = same_list_eq _ _ a.edges i;
      notes = same_by_eq same_note same_note_eq _ _ a.notes i;
      count = eqb→eq m.count n.count a.counts i;
      reference = eqb→eq m.reference n.reference a.references i;
    }

agree_self : (m : Map) → T (agree m m)
agree_self m =
    agrees_by m m
    (record {
      counts = eqb_refl m.count;
      references = eqb_refl m.reference;
      points = same_by_refl same_point (λ p. same_point_by p p refl) m.points;
      helpers = same_by_refl beq beq_refl m.helpers;
      edges = same_list_refl m.edge;
      notes = same_by_refl same_note same_note_refl m.notes;
    })

-- ---- sound maps

-- none of its points is refused, and they build the map
pub record Sound (m : Map) : Type 0 where
  pub free : NoneApplies (building_rules empty_map (map_points m))
  pub is_built : m ≡ built empty_map (map_points m)

pub sound_is : (m : Map) → T (sound m) → Sound m
unfolding sound
sound_is m t =
    by_rules (sound m)
    (unless_decides (λ r. false) (building_rules empty_map (map_points m)) (agree m (built empty_map (map_points m)))) t
  where
    by_rules : (b : Bool) →
        RulesDecide (λ r. false) (building_rules empty_map (map_points m)) (agree m (built empty_map (map_points m))) b →
        T b → Sound m
    by_rules b (refuses r first) t = absurd t
    by_rules b (serves free) t = record { free = free; is_built = agree_same _ _ t }

pub sound_by : (m : Map) → Sound m → T (sound m)
unfolding sound
sound_by m s =
    subst (λ (b : Bool). T b)
    (sym (unless_none (λ r. false) (agree m (built empty_map (map_points m))) s.free))
    (subst (λ (n : Map). T (agree m n)) s.is_built (agree_self m))
