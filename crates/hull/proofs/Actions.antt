-- Demand 3 for lists of offers and removals (request 108), in the order of this page: a run that accepted
-- offers alone have made (`Grows`); an offer makes of it such a run, and so does a removal, with one entry
-- less (`removal_drops`). So what offers and removals make is what the offers of the history's points make
-- alone (`actions_are_offers`), and demand 3 holds of it (`balanced_with_removals`). A list without
-- removals makes the run of its offers (`offers_alone`).
use mathlib.Core.Path.{◌≡◌, refl, sym, ap, subst, ◌∙◌}
use mathlib.Core.List.{List, [], ◌∷◌, ◌++◌, map, map-append}
use Prim.Native.Nat.{◌-◌, ◌<◌}
use native.Mathlib.Omega.{arith}
use lib.Dec.{T}
use lib.ListN.{length, take, length-append}
use lib.Seq.{take_at}
use Rattle.std.specs.declared.result.Result.{Result}
use Rattle.model.specs.declared.Refusal.{Refusal}
use Rattle.model.specs.declared.Point.{Point}
use Rattle.model.specs.declared.Map.{Map}
use Rattle.model.specs.Refusals.{nor, Refuses}
use Rattle.model.specs.Maps.{empty_map}
use Rattle.model.specs.Sound.{sound}
use Rattle.model.specs.Arrival.{arrive}
use Rattle.model.specs.Removal.{before_last, remove_call, remove}
use Rattle.model.specs.History.{Entry, Run, extended, run_from, run, Action, offering, taking_back, taken_back_by, taken_back, acted, performed_from, performed, offered_point, Balanced}
use Rattle.model.proofs.Answers.{refuses_some}
use Rattle.sight.specs.Requires.{Accepted}
use Rattle.hull.proofs.Outcomes.{none_applies}
use Rattle.hull.proofs.Building.{arrive_count}
use Rattle.hull.proofs.Sound.{sound_grows}
use Rattle.hull.proofs.Offers.{sound_passes}
use Rattle.hull.proofs.History.{with_entry, offer_either, run_sound, always_balanced}
use Rattle.hull.proofs.Removal.{removal_undoes, Taken, taken, kept, remove_decided, none_refuses}

-- ---- one offer, one removal

-- the run before anything was offered
abbrev at_start : Run
at_start = record { map = empty_map; history = [] }

-- a run that accepted offers alone have made, from the empty map
data Grows : Run → Type 0 where
  start : Grows at_start
  more : (r : Run) (p : Point) → Grows r → T (sound r.map) → Accepted r.map p →
      Grows (with_entry r p (arrive r.map p))

-- an offer makes of it such a run
offer_grows : (r : Run) (p : Point) → Grows r → Grows (extended r p)
offer_grows r p g = offer_either Grows r p (λ t a. more r p g t a) (λ refusal first. g)

-- what holds of the run with its last arrival taken back, if there is one, and of the run as it was, if the
-- removal is refused, holds after the removal
module _ (Q : Run → Type 0) (r : Run)
    (if_taken : T (sound r.map) → 0 < r.map.count →
    Q (record { map = before_last r.map; history = take (length r.history - 1) r.history }))
    (if_kept : (refusal : Refusal) → Refuses refusal (remove_call r.map).rules → Q r)
  where
    pub taken_either : Q (taken_back r)
    unfolding taken_back taken_back_by
    taken_either = decided (remove r.map) (remove_decided r.map)
      where
        decided : (o : Result Map Refusal) → Taken r.map o → Q (taken_back_by r o)
        decided o (taken t some) = if_taken t some
        decided o (kept refusal first) = if_kept refusal first

-- a removal after an accepted offer leaves the run before that
shortened : (r : Run) (p : Point) → T (sound r.map) → Accepted r.map p →
    r ≡ record {
      map = before_last (arrive r.map p).map;
      history = take (length (with_entry r p (arrive r.map p)).history - 1) (with_entry r p (arrive r.map p)).history;
    }
shortened r p t a =
    let e : Entry = record { before = r.map; offered = p; arrival = (arrive r.map p).arrival } in
    let all_but_one : length r.history ≡ length (r.history ++ e ∷ []) - 1 = omega (arith, length-append r.history (e ∷ [])) in
    let front = take_at r.history (e ∷ []) (length (r.history ++ e ∷ []) - 1) all_but_one in
    λ i. record { map = sym (removal_undoes t a) i; history = sym front i }

-- a removal makes of it such a run: the one before its last arrival, or, where there is none, the same
removal_grows : (r : Run) → Grows r → Grows (taken_back r)
unfolding empty_map
removal_grows r start = taken_either Grows at_start (λ t some. absurd (omega arith)) (λ refusal first. start)
removal_grows r (more q p g t a) =
    taken_either Grows (with_entry q p (arrive q.map p)) (λ s some. subst Grows (shortened q p t a) g)
    (λ refusal first. more q p g t a)

-- an accepted offer adds its entry
accepted_adds : (r : Run) (p : Point) → T (sound r.map) → Accepted r.map p →
    extended r p ≡ with_entry r p (arrive r.map p)
accepted_adds r p t a =
    offer_either (λ (next : Run). next ≡ with_entry r p (arrive r.map p)) r p (λ s b. refl)
    (λ refusal first. absurd (refuses_some first (nor (sound_passes r.map t) (none_applies p a))))

-- "leave out arrivals taken back": offered and taken back, a point leaves map and history as they were
pub removal_drops : (r : Run) (p : Point) → T (sound r.map) → Accepted r.map p → taken_back (extended r p) ≡ r
removal_drops r p t a =
    let new = (arrive r.map p).map in
    let served = none_refuses new (sound_grows t a) (omega (arith, arrive_count r.map p)) in
    ap taken_back (accepted_adds r p t a)
    ∙ taken_either (λ (next : Run). next ≡ r) (with_entry r p (arrive r.map p)) (λ s some. sym (shortened r p t a))
    (λ refusal first. absurd (refuses_some first served))

-- ---- lists

performed_grows : (r : Run) → Grows r → (acts : List Action) → Grows (performed_from r acts)
unfolding performed_from acted
performed_grows r g [] = g
performed_grows r g (offering p ∷ acts) = performed_grows (extended r p) (offer_grows r p g) acts
performed_grows r g (taking_back ∷ acts) = performed_grows (taken_back r) (removal_grows r g) acts

-- one call more
run_more : (r : Run) (ps : List Point) (p : Point) → run_from r (ps ++ p ∷ []) ≡ extended (run_from r ps) p
unfolding run_from
run_more r [] p = refl
run_more r (q ∷ ps) p = run_more (extended r q) ps p

performed_more_from : (r : Run) (acts : List Action) (act : Action) →
    performed_from r (acts ++ act ∷ []) ≡ acted (performed_from r acts) act
unfolding performed_from
performed_more_from r [] act = refl
performed_more_from r (next ∷ acts) act = performed_more_from (acted r next) acts act

pub performed_more : (acts : List Action) (act : Action) → performed (acts ++ act ∷ []) ≡ acted (performed acts) act
unfolding performed
performed_more = performed_more_from at_start

-- such a run is what the points of its history make, offered in order
grown_is_run : (r : Run) → Grows r → r ≡ run (map offered_point r.history)
unfolding run run_from offered_point
grown_is_run r start = refl
grown_is_run r (more q p g t a) =
    let e : Entry = record { before = q.map; offered = p; arrival = (arrive q.map p).arrival } in
    sym (accepted_adds q p t a)
    ∙ (ap (λ (z : Run). extended z p) (grown_is_run q g)
    ∙ (sym (run_more at_start (map offered_point q.history) p)
    ∙ ap run (sym (map-append offered_point q.history (e ∷ [])))))

-- ---- demand 3, with removals

-- offers and removals leave what the offers that are not taken back leave alone
pub actions_are_offers : (acts : List Action) → performed acts ≡ run (map offered_point (performed acts).history)
unfolding performed
actions_are_offers acts = grown_is_run (performed acts) (performed_grows at_start start acts)

pub balanced_with_removals : (acts : List Action) → Balanced (performed acts)
balanced_with_removals acts = subst Balanced (sym (actions_are_offers acts)) (always_balanced (map offered_point (performed acts).history))

-- every map on the way is sound
pub performed_sound : (acts : List Action) → T (sound (performed acts).map)
performed_sound acts =
    subst (λ (r : Run). T (sound r.map)) (sym (actions_are_offers acts))
    (run_sound (map offered_point (performed acts).history))

-- a list without removals
offers_alone_from : (r : Run) (ps : List Point) → performed_from r (map offering ps) ≡ run_from r ps
unfolding performed_from acted run_from
offers_alone_from r [] = refl
offers_alone_from r (p ∷ ps) = offers_alone_from (extended r p) ps

pub offers_alone : (ps : List Point) → performed (map offering ps) ≡ run ps
unfolding performed run
offers_alone = offers_alone_from at_start
