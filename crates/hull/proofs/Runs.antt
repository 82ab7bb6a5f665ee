-- Points offered one after another by document 01's offers, in the order of this page: what offers make of a run, as
-- the record `After`; from the empty map all offers are accepted just where no rule applies (`all_accepted`), the map
-- is then the one that the points build (`built_is_run`), and the first refusal met is that of the first rule that
-- applies (`first_refusal_met`). So the sound maps are just those that some list of offers gives
-- (`sound_reachable`).
use mathlib.Core.Path.{◌≡◌, refl, sym, subst, ◌∙◌}
use mathlib.Core.Logic.{◌↔◌}
use mathlib.Core.List.{List, [], ◌∷◌, ◌++◌}
use Prim.Native.Nat.{◌+◌, ◌≤◌}
use native.Mathlib.Nat.{zero-add}
use native.Mathlib.Omega.{arith}
use lib.Dec.{T}
use lib.ListN.{length, length-append}
use Rattle.std.specs.declared.result.Result.TheVariants.{Err}
use Rattle.model.specs.declared.Refusal.{Refusal}
use Rattle.model.specs.declared.Point.{Point}
use Rattle.model.specs.declared.Map.{Map}
use Rattle.model.specs.Refusals.{Refuses, NoneApplies, none, nor}
use Rattle.model.specs.Maps.{empty_map, map_points}
use Rattle.model.specs.Arrival.{arrive, admission_rules}
use Rattle.model.specs.Building.{building_rules, built}
use Rattle.model.specs.Sound.{sound}
use Rattle.model.specs.Offers.{offer}
use Rattle.model.specs.History.{Run, run_from, run}
use Rattle.model.proofs.Answers.{refuses_some, none_append, none_both, refuses_front, refuses_later}
use Rattle.model.proofs.Sound.{sound_is}
use Rattle.sight.specs.Requires.{Accepted}
use Rattle.hull.proofs.Outcomes.{none_applies}
use Rattle.hull.proofs.Building.{building_append}
use Rattle.hull.proofs.Sound.{sound_grows, empty_is_sound}
use Rattle.hull.proofs.Offers.{sound_passes, refused_sound}
use Rattle.hull.proofs.History.{with_entry, offer_either, run_sound}

-- ---- what offers make of a run

-- What a run r with a sound map comes to, after offers of ps: it has at most one entry more for each of them, and
-- one for each just where no rule applies; then its map is the one that they build.
record After (r : Run) (ps : List Point) (end : Run) : Type 0 where
  at_most : length end.history ≤ length r.history + length ps
  all_taken : (length end.history ≡ length r.history + length ps) ↔ NoneApplies (building_rules r.map ps)
  is_built : NoneApplies (building_rules r.map ps) → built r.map ps ≡ end.map

-- the first point is accepted, or refused, and then come the others ..
module _ {r : Run} {p : Point} {ps : List Point} {end : Run} where
  after_accepted : Accepted r.map p → After (with_entry r p (arrive r.map p)) ps end → After r (p ∷ ps) end
  unfolding building_rules built
  after_accepted a after =
      let rules = admission_rules r.map p in
      let next = with_entry r p (arrive r.map p) in
      let one_more : length next.history ≡ length r.history + 1 = simp length-append in
      record {
        at_most = omega arith;
        all_taken = (
          λ e. none_append (none_applies p a) (after.all_taken.0 (omega arith)),
          λ free. omega (arith, after.all_taken.1 (none_both rules free).1),
        );
        is_built = λ free. after.is_built (none_both rules free).1;
      }

  after_refused : ¬ NoneApplies (admission_rules r.map p) → After r ps end → After r (p ∷ ps) end
  unfolding building_rules
  after_refused n after =
      let some : ¬ NoneApplies (building_rules r.map (p ∷ ps)) = λ free. n (none_both _ free).0 in
      record {
        at_most = omega arith;
        all_taken = (λ e. absurd (omega arith), λ free. absurd (some free));
        is_built = λ free. absurd (some free);
      }

-- .. so it holds of every list of offers
after_offers : (r : Run) → T (sound r.map) → (ps : List Point) → After r ps (run_from r ps)
unfolding run_from building_rules built
after_offers r s [] =
    record { at_most = omega arith; all_taken = (λ e. none, λ free. omega arith); is_built = λ free. refl }
after_offers r s (p ∷ ps) =
    offer_either (λ (next : Run). After r (p ∷ ps) (run_from next ps)) r p
    (λ t a. after_accepted a (after_offers (with_entry r p (arrive r.map p)) (sound_grows t a) ps))
    (λ refusal f. after_refused (λ free. refuses_some f (nor (sound_passes r.map s) free)) (after_offers r s ps))

-- ---- from the empty map

after_run : (ps : List Point) → After (record { map = empty_map; history = [] }) ps (run ps)
unfolding run
after_run = after_offers (record { map = empty_map; history = [] }) empty_is_sound

-- all offers are accepted just where no rule applies ..
pub all_accepted : (ps : List Point) → (length (run ps).history ≡ length ps) ↔ NoneApplies (building_rules empty_map ps)
all_accepted ps = rw zero-add at (after_run ps).all_taken

-- .. and the map is then the one that the points build
pub built_is_run : (ps : List Point) → NoneApplies (building_rules empty_map ps) → built empty_map ps ≡ (run ps).map
built_is_run ps = (after_run ps).is_built

-- where the offers of qs are all accepted and the next one is refused with r, r is the first refusal met, whatever
-- follows
pub first_refusal_met : (qs : List Point) (p : Point) (rest : List Point) (r : Refusal) →
    length (run qs).history ≡ length qs → offer (run qs).map p ≡ Err r →
    Refuses r (building_rules empty_map (qs ++ p ∷ rest))
unfolding building_rules
first_refusal_met qs p rest r all refusal =
    let free = (all_accepted qs).0 all in
    rw (building_append empty_map qs (p ∷ rest), built_is_run qs free)
    (refuses_later free (refuses_front (refused_sound (run qs).map (run_sound qs) p r refusal) _))

-- ---- sound maps are those that offers lead to

pub sound_reachable : (m : Map) → T (sound m) ↔ ((ps : List Point) × ((run ps).map ≡ m))
sound_reachable m = (
  λ t.
      let s = sound_is m t in
      (map_points m, sym (built_is_run (map_points m) s.free) ∙ sym s.is_built),
  λ w. subst (λ (n : Map). T (sound n)) w.1 (run_sound w.0),
)
