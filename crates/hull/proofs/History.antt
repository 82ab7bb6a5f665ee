-- Demand 3 as one theorem: after every list of offers from the empty map all of its claims hold
-- (`always_balanced`). What every offer keeps is the record `Invariant`; from it follow the claims, by the
-- laws of sound maps. In the order of this page: what one offer makes of a run (`offer_either`), and one
-- induction over runs, for any property that every arrival keeps (`run_keeps`); the invariant; the start; one
-- accepted offer; every list of offers; the claims; a refused offer.
use mathlib.Core.Path.{◌≡◌, refl, sym, ap, subst, ◌∙◌}
use mathlib.Core.Logic.{◌≢◌, ⊎_elim}
use mathlib.Core.List.{List, [], ◌∷◌, ◌++◌, map, map-append}
use Prim.Native.Nat.{ℕ, suc, ◌+◌, ◌*◌, ◌≤◌, ◌<◌}
use native.Mathlib.Omega.{arith}
use lib.Dec.{T, ltb, lt→ltb}
use lib.ListN.{length}
use Rattle.std.specs.declared.result.Result.{Result}
use Rattle.std.specs.declared.result.Result.TheVariants.{Err}
use Rattle.finite.specs.Tests.{is_true, same_or_not}
use Rattle.finite.specs.Bounded.{one_if, table, table_onto, lt_or_ge}
use Rattle.finite.specs.Lists.{distinct, count_in, total}
use Rattle.finite.specs.ListLaws.{total_append}
use Rattle.model.specs.declared.Refusal.{Refusal}
use Rattle.model.specs.declared.Point.{Point}
use Rattle.model.specs.declared.Map.{Map}
use Rattle.model.specs.declared.Offered.{Offered}
use Rattle.model.specs.Refusals.{Refuses}
use Rattle.model.specs.Maps.{point, empty_map}
use Rattle.model.specs.Outline.{outline, sees, visible_edges}
use Rattle.model.specs.Shape.{Shaped}
use Rattle.model.specs.Sound.{sound}
use Rattle.model.specs.Arrival.{inside_kind, with_point, alone, pair, spliced, arrive}
use Rattle.model.specs.Offers.{offer_rules, offer}
use Rattle.model.specs.History.{Entry, Run, extended_by, extended, run_from, run, offered_point, reported, reported_edges, edges_seen, is_outside, outside_arrivals, Balanced}
use Rattle.maps.proofs.Darts.{point_twice}
use Rattle.maps.proofs.Links.{counts_balance}
use Rattle.maps.proofs.Outline.{outline_two, outline_circuit, outline_next, corners_on_it}
use Rattle.maps.proofs.Empty.{empty_sound}
use Rattle.maps.proofs.Alone.{alone_outline}
use Rattle.maps.proofs.Pair.{pair_outline}
use Rattle.sight.specs.Requires.{Accepted}
use Rattle.hull.proofs.Outcomes.{Arrives, first, second, inside, outside, arrive_arrives}
use Rattle.hull.proofs.Sound.{sound_grows, empty_is_sound}
use Rattle.hull.proofs.Offers.{Decided, accepted, refused, offer_decided}
use Rattle.hull.proofs.Arrivals.{arrival_sound, outside_balance}
use Rattle.hull.proofs.Building.{points_grow}
use Rattle.hull.proofs.Theorems.{corners_turn_left}

-- ---- one induction over runs

-- the run with one entry more
abbrev pub with_entry : Run → Point → Offered → Run
with_entry r p o =
    record {
      map = o.map;
      history = r.history ++ record { before = r.map; offered = p; arrival = o.arrival } ∷ [];
    }

-- what holds of the run with one entry more if the point is accepted, and of the run as it was if it is refused,
-- holds after the offer
module _ (Q : Run → Type 0) (r : Run) (p : Point)
    (if_accepted : T (sound r.map) → Accepted r.map p → Q (with_entry r p (arrive r.map p)))
    (if_refused : (refusal : Refusal) → Refuses refusal (offer_rules r.map p) → Q r)
  where
    decided_either : (o : Result Offered Refusal) → Decided r.map p o → Q (extended_by r p o)
    unfolding extended_by
    decided_either o (accepted t a) = if_accepted t a
    decided_either o (refused refusal first_rule) = if_refused refusal first_rule

    pub offer_either : Q (extended r p)
    unfolding extended
    offer_either = decided_either (offer r.map p) (offer_decided r.map p)

-- a property of runs that every arrival of an accepted point keeps
module _ (Q : Run → Type 0)
    (keeps : (r : Run) → Q r → (p : Point) → Accepted r.map p → (o : Offered) → Arrives r.map p o → Q (with_entry r p o))
  where
    -- every list of offers keeps it, from any run on, since a refused one changes nothing ..
    pub run_keeps_from : (r : Run) → Q r → (ps : List Point) → Q (run_from r ps)
    unfolding run_from
    run_keeps_from r q [] = q
    run_keeps_from r q (p ∷ ps) =
        let m = r.map in
        run_keeps_from (extended r p)
        (offer_either Q r p (λ t a. keeps r q p a (arrive m p) (arrive_arrives m p)) (λ refusal first_rule. q)) ps

    -- .. and from the empty map
    pub run_keeps : Q (record { map = empty_map; history = [] }) → (ps : List Point) → Q (run ps)
    unfolding run
    run_keeps q ps = run_keeps_from (record { map = empty_map; history = [] }) q ps

-- ---- the invariant

-- what the visible edges reported come to
abbrev seen_in_all : List Entry → ℕ
seen_in_all h = total (map reported_edges h)

-- what every offer keeps
record Invariant (r : Run) : Type 0 where
  is_sound : Shaped r.map
  same_points : map offered_point r.history ≡ table r.map.count (point r.map)
  reports : map reported_edges r.history ≡ map edges_seen r.history
  few_seen : r.map.count < 2 → seen_in_all r.history ≡ 0
  few_outside : r.map.count < 2 → outside_arrivals r.history ≡ 0
  balance : 2 ≤ r.map.count →
      seen_in_all r.history + length (outline r.map) ≡ 2 * outside_arrivals r.history + 2

-- ---- the start

invariant_start : Invariant (record { map = empty_map; history = [] })
unfolding table table_onto total outside_arrivals count_in empty_map
invariant_start =
    record {
      is_sound = empty_sound;
      same_points = refl;
      reports = refl;
      few_seen = λ h. refl;
      few_outside = λ h. refl;
      balance = λ h. absurd (omega arith);
    }

-- ---- one accepted offer

-- what one entry more adds to the sums over the history
outside_more : (h : List Entry) (e : Entry) →
    outside_arrivals (h ++ e ∷ []) ≡ outside_arrivals h + one_if (is_outside e.arrival)
unfolding outside_arrivals count_in
outside_more [] e = omega arith
outside_more (x ∷ h) e = omega (arith, outside_more h e)

seen_more : (h : List Entry) (e : Entry) → seen_in_all (h ++ e ∷ []) ≡ seen_in_all h + reported e.arrival
unfolding total reported_edges
seen_more h e =
    omega (arith, ap total (map-append reported_edges h (e ∷ [])), total_append (map reported_edges h) (map reported_edges (e ∷ [])))

-- what an arrival has to show, for the run with its entry to keep the invariant
pub record Adds (m : Map) (p : Point) (o : Offered) : Type 0 where
  pub is_sound : Shaped o.map
  pub count_grows : o.map.count ≡ suc m.count
  pub points : table o.map.count (point o.map) ≡ table m.count (point m) ++ p ∷ []
  reports : reported o.arrival ≡ visible_edges m p
  first_adds : m.count ≡ 0 → (reported o.arrival ≡ 0) × (one_if (is_outside o.arrival) ≡ 0)
  second_adds : m.count ≡ 1 →
      (reported o.arrival ≡ 0) × (one_if (is_outside o.arrival) ≡ 0) × (length (outline o.map) ≡ 2)
  later_adds : 2 ≤ m.count →
      reported o.arrival + length (outline o.map) ≡ length (outline m) + 2 * one_if (is_outside o.arrival)

invariant_more : (r : Run) → Invariant r → (p : Point) (o : Offered) → Adds r.map p o → Invariant (with_entry r p o)
unfolding reported_edges edges_seen offered_point
invariant_more r k p o a =
    let e : Entry = record { before = r.map; offered = p; arrival = o.arrival } in
    let seen = seen_more r.history e in
    let outs = outside_more r.history e in
    record {
      is_sound = a.is_sound;
      same_points =
          map-append offered_point r.history (e ∷ []) ∙ (ap (λ (s : List Point). s ++ p ∷ []) k.same_points ∙ sym a.points);
      reports =
          map-append reported_edges r.history (e ∷ []) ∙
          ((λ i. k.reports i ++ a.reports i ∷ []) ∙ sym (map-append edges_seen r.history (e ∷ [])));
      few_seen =
          λ few. let none : r.map.count ≡ 0 = omega (arith, a.count_grows) in
          omega (arith, seen, k.few_seen (omega arith), (a.first_adds none).0);
      few_outside =
          λ few. let none : r.map.count ≡ 0 = omega (arith, a.count_grows) in
          omega (arith, outs, k.few_outside (omega arith), (a.first_adds none).1);
      balance =
          λ two.
          ⊎_elim
          (λ (one : r.map.count ≡ 1).
          let few : r.map.count < 2 = omega arith in
          omega (arith, seen, outs, k.few_seen few, k.few_outside few, (a.second_adds one).0, (a.second_adds one).1, (a.second_adds one).2))
          (λ (more : r.map.count ≢ 1).
          let later : 2 ≤ r.map.count = omega (arith, a.count_grows) in
          omega (arith, seen, outs, k.balance later, a.later_adds later))
          (same_or_not r.map.count 1);
    }

-- with fewer than two points there is no outline, and nothing is visible
pub few_outline : (m : Map) → m.count < 2 → outline m ≡ []
unfolding outline
few_outline m few = rw (is_true (ltb m.count 2) (lt→ltb m.count 2 few)) refl

few_visible : (m : Map) (p : Point) → m.count < 2 → visible_edges m p ≡ 0
unfolding visible_edges count_in
few_visible m p few = ap (count_in (sees m p)) (few_outline m few)

-- each arrival adds what it has to
pub arrival_adds : (m : Map) (p : Point) → Accepted m p → (o : Offered) → Arrives m p o → Adds m p o
unfolding alone pair spliced with_point reported is_outside one_if
arrival_adds m p a o (first none) =
    record {
      is_sound = arrival_sound m p a _ (first none);
      count_grows = refl;
      points = points_grow a _ _ _ _;
      reports = sym (few_visible m p (omega arith));
      first_adds = λ h. (refl, refl);
      second_adds = λ h. absurd (omega arith);
      later_adds = λ h. absurd (omega arith);
    }
arrival_adds m p a o (second one) =
    record {
      is_sound = arrival_sound m p a _ (second one);
      count_grows = refl;
      points = points_grow a _ _ _ _;
      reports = sym (few_visible m p (omega arith));
      first_adds = λ h. (refl, refl);
      second_adds = λ h. (refl, refl, ap length (pair_outline a.is_sound one p));
      later_adds = λ h. absurd (omega arith);
    }
arrival_adds m p a o (inside two none) =
    record {
      is_sound = arrival_sound m p a _ (inside two none);
      count_grows = refl;
      points = points_grow a _ _ _ _;
      reports = sym none;
      first_adds = λ h. absurd (omega arith);
      second_adds = λ h. absurd (omega arith);
      later_adds = λ h. omega (arith, ap length (alone_outline a.is_sound inside_kind p two));
    }
arrival_adds m p a o (outside two some) =
    record {
      is_sound = arrival_sound m p a _ (outside two some);
      count_grows = refl;
      points = points_grow a _ _ _ _;
      reports = refl;
      first_adds = λ h. absurd (omega arith);
      second_adds = λ h. absurd (omega arith);
      later_adds = λ h. omega (arith, outside_balance a two some);
    }

-- ---- every list of offers

invariant_run : (ps : List Point) → Invariant (run ps)
invariant_run =
    run_keeps Invariant (λ r k p a o arrives. invariant_more r k p o (arrival_adds r.map p a o arrives))
    invariant_start

-- every list of offers from the empty map ends in a shaped map, which is sound
pub run_shaped : (ps : List Point) → Shaped (run ps).map
run_shaped ps = (invariant_run ps).is_sound

pub run_sound : (ps : List Point) → T (sound (run ps).map)
unfolding run run_from
run_sound ps = from (record { map = empty_map; history = [] }) empty_is_sound ps
  where
    from : (r : Run) → T (sound r.map) → (ps : List Point) → T (sound (run_from r ps).map)
    from r t [] = t
    from r t (p ∷ ps) =
        from (extended r p)
        (offer_either (λ (next : Run). T (sound next.map)) r p (λ s a. sound_grows s a) (λ refusal first_rule. t)) ps

-- ---- the claims

invariant_balanced : (r : Run) → Invariant r → Balanced r
unfolding distinct
invariant_balanced r k =
    let s = k.is_sound in
    let two = outline_two r.map in
    record {
      edge_undoes_itself = s.links.undone;
      point_undoes_itself = point_twice r.map;
      same_points = k.same_points;
      counts_balance = counts_balance s;
      one_closed_walk = λ two. (s.outlined two).one_walk;
      reference_own = λ two. (s.outlined two).reference_own;
      reference_present = λ two. (s.outlined two).reference_present;
      outline_is_it = λ two. (s.outlined two).reference_closed;
      corners_on_it = λ two j. (
        λ on. ((outline_circuit s two).below j on, (corners_on_it s two j).0 on),
        λ h. (corners_on_it s two j).1 h.1,
      );
      corners_distinct =
          ⊎_elim
          (λ (few : r.map.count < 2). subst (λ (t : List ℕ). T (distinct t)) (sym (few_outline r.map few)) tt)
          (λ (two : 2 ≤ r.map.count). (outline_circuit s two).all_distinct)
          (lt_or_ge r.map.count 2);
      next_is_corner = λ a on. (outline_next s (two a on) a on).1;
      edge_to_next = λ a on. (outline_next s (two a on) a on).0;
      others_beside = λ a c on. (s.outlined (two a on)).others a c on;
      corners_turn_left = λ three a on. corners_turn_left s (two a on) three a on;
      reports_right = k.reports;
      arrivals_balance = k.balance;
    }

-- demand 3
pub always_balanced : (ps : List Point) → Balanced (run ps)
always_balanced ps = invariant_balanced (run ps) (invariant_run ps)

-- "A refused offer, whatever its number, leaves the map as it was for the next one", and "adds nothing"
-- to the history
pub refused_adds_nothing : (r : Run) (p : Point) (refusal : Refusal) → offer r.map p ≡ Err refusal → extended r p ≡ r
unfolding extended extended_by
refused_adds_nothing r p refusal e = ap (extended_by r p) e
