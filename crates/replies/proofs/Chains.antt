-- Demand 3 at the boundary, in the order of this page: what a call of `reach_offer` leaves, by the
-- number that it returns; the file that an offer leaves of a sound map's file is that of the map
-- after the offer. So after calls from the empty map's file on, whatever each returned, the caller has
-- the file of the map of the run of the served offers (`calls_run`), of which demand 3 is proved, and
-- the run's history has just these (`calls_history`).
use mathlib.Core.Path.{◌≡◌, refl, sym, ap, subst, ◌∙◌}
use mathlib.Core.Logic.{◌≢◌}
use mathlib.Core.Bool.{not, ◌||◌}
use mathlib.Core.List.{List, [], ◌∷◌, ◌++◌, map, map-append}
use Prim.Native.Nat.{ℕ}
use native.Mathlib.Omega.{arith}
use lib.Dec.{T}
use lib.ListN.{length, drop, take}
use lib.Seq.{take-append_seam}
use Rattle.std.specs.declared.result.Result.{Result}
use Rattle.std.specs.declared.result.Result.TheVariants.{Ok, Err}
use Rattle.finite.specs.Tests.{is_true}
use Rattle.model.specs.declared.Refusal.{Refusal}
use Rattle.model.specs.declared.Point.{Point}
use Rattle.model.specs.declared.Map.{Map}
use Rattle.model.specs.declared.Offered.{Offered}
use Rattle.model.specs.Refusals.{number, Rule, ◌when◌, unless, NoneApplies, nor}
use Rattle.model.specs.Maps.{empty_map}
use Rattle.model.specs.Sound.{sound}
use Rattle.model.specs.Arrival.{arrive}
use Rattle.model.specs.Offers.{offer_rules, offer_call, offer, map_after}
use Rattle.model.specs.History.{Run, extended_by, extended, run_from, run, offered_point}
use Rattle.model.specs.Saved.{map_in, saved, file_in_form, loaded}
use Rattle.model.proofs.Sound.{sound_is}
use Rattle.model.proofs.Answers.{RulesDecide, refuses, serves, unless_decides, unless_none}
use Rattle.model.proofs.Answers.{unless_refuses, none_both, rule_passes, unless_made}
use Rattle.hull.proofs.Sound.{sound_shaped}
use Rattle.hull.proofs.History.{run_sound}
use Rattle.layout.proofs.Form.{is_saved}
use Rattle.saved.proofs.Files.{saved_in_form, map_back}
use Rattle.loading.proofs.Saving.{load_of_save}
use Rattle.reports.proofs.Histories.{extended_map}
use Rattle.model.specs.Lent.{and_short, is_short}
use Rattle.replies.specs.Opened.{of_file}
use Rattle.replies.specs.Replies.{Offering, meaning_of, arrival_told}
use Rattle.replies.specs.Chains.{file_after, Calls, begun, served, refused}

-- ---- what a call leaves

-- no refusal has the number 0
pub number_some : (r : Refusal) → number r ≢ 0
unfolding number
number_some Refusal.NotSound e = omega arith
number_some Refusal.Full e = omega arith
number_some Refusal.OutOfRange e = omega arith
number_some Refusal.Repeated e = omega arith
number_some Refusal.NoDart e = omega arith
number_some Refusal.BadFile e = omega arith
number_some Refusal.BadLine e = omega arith
number_some Refusal.LongText e = omega arith
number_some Refusal.ShortList e = omega arith
number_some Refusal.BadOutline e = omega arith
number_some Refusal.NoSurvey e = omega arith
number_some Refusal.NoPoint e = omega arith

module _ (rules : List Rule) where
  -- rules that come to the number 0: none applies
  pub none_numbered : unless number rules 0 ≡ 0 → NoneApplies rules
  none_numbered = go (unless_decides number rules 0)
    where
      go : {n : ℕ} → RulesDecide number rules 0 n → n ≡ 0 → NoneApplies rules
      go (refuses r f) e = absurd (number_some r e)
      go (serves f) e = f

  -- another number: one applies
  pub some_numbered : {A : Type 0} (a x : A) → unless number rules 0 ≢ 0 → unless (λ r. a) rules x ≡ a
  some_numbered a x = go (unless_decides number rules 0)
    where
      go : {n : ℕ} → RulesDecide number rules 0 n → n ≢ 0 → unless (λ r. a) rules x ≡ a
      go (refuses r f) n = unless_refuses (λ r. a) x f
      go (serves f) n = absurd (n refl)

-- a call that was lent the file s, and returned k
module _ (s : List ℕ) (p : Point) {before after before' after' : List ℕ} {k : ℕ}
    (o : Offering s p before after before' after' k) where
  abbrev rules : List Rule
  rules = of_file s (λ m. (offer_call m p).rules)

  abbrev file : List ℕ
  file = saved (offer_call (map_in s) p).value.map

  abbrev told : List ℕ
  told = arrival_told (meaning_of (offer_call (map_in s) p))

  abbrev all_rules : List Rule
  all_rules = and_short rules (is_short file before || is_short told before')

  none_applies : k ≡ 0 → NoneApplies all_rules
  none_applies e = none_numbered all_rules (sym o.code ∙ e)

  -- served: no rule of an offer to the file's map applies,
  pub served_free : k ≡ 0 → NoneApplies rules
  served_free e = (none_both rules (none_applies e)).0

  -- and the lent list starts with the file after the offer, and keeps its tail
  pub served_leaves : k ≡ 0 → after ≡ file_after s p ++ drop (length (file_after s p)) before
  unfolding file_after
  served_leaves e =
      o.list
      ∙ unless_none (λ r. before) (file ++ drop (length file) before) (none_applies e)
      ∙ ap (λ (t : List ℕ). t ++ drop (length t) before) (sym (unless_none (λ r. s) file (served_free e)))

  -- refused, with any number: the lent list is as it was
  pub refused_leaves : k ≢ 0 → after ≡ before
  refused_leaves n = o.list ∙ some_numbered all_rules before _ (λ e. n (o.code ∙ e))

-- ---- the file of a sound map

module _ (m : Map) (t : T (sound m)) where
  map_kept : map_in (saved m) ≡ m
  map_kept = map_back is_saved (sound_shaped m t) (λ e. (sound_is m t).is_built)

  file_of_offer : (p : Point) → file_after (saved m) p ≡ saved (map_after m (offer m p))
  unfolding file_after offer map_after
  file_of_offer p =
      rw map_kept
      (sym
      (rule_passes (λ r. saved m) (Refusal.BadFile when not (file_in_form (saved m)))
      (offer_rules m p) (saved (arrive m p).map)
      (ap not (is_true (file_in_form (saved m)) (saved_in_form is_saved (sound_shaped m t))))
      (unless_made (λ (o : Result Offered Refusal). saved (map_after m o)) Err (λ r. saved m) (λ r. refl)
      (offer_rules m p) (Ok (arrive m p)))))

  -- where no rule of an offer to the file applies, none of an offer to the map does
  free_of_map : (p : Point) {s : List ℕ} → s ≡ saved m →
      NoneApplies (of_file s (λ n. (offer_call n p).rules)) → NoneApplies (offer_rules m p)
  free_of_map p e free = go (subst (λ (u : List ℕ). NoneApplies (of_file u (λ n. (offer_call n p).rules))) e free)
    where
      go : NoneApplies (of_file (saved m) (λ n. (offer_call n p).rules)) → NoneApplies (offer_rules m p)
      go (nor n rest) = subst (λ (n : Map). NoneApplies (offer_rules n p)) map_kept rest

-- ---- calls, whatever each returned

run_more : (r : Run) (ps : List Point) (p : Point) → run_from r (ps ++ p ∷ []) ≡ extended (run_from r ps) p
unfolding run_from
run_more r [] p = refl
run_more r (q ∷ ps) p = run_more (extended r q) ps p

one_more : (ps : List Point) (p : Point) → run (ps ++ p ∷ []) ≡ extended (run ps) p
unfolding run
one_more = run_more (record { map = empty_map; history = [] })

-- an offer that is not refused adds its point
pub served_adds : (r : Run) (p : Point) → NoneApplies (offer_rules r.map p) →
    map offered_point (extended r p).history ≡ map offered_point r.history ++ p ∷ []
unfolding extended extended_by offered_point offer
served_adds r p free =
    ap (λ (o : Result Offered Refusal). map offered_point (extended_by r p o).history)
    (unless_none Err (Ok (arrive r.map p)) free)
    ∙ map-append offered_point r.history _

-- the file that the caller has is that of the map of the served offers, of which `always_balanced`
-- speaks,
pub calls_run : {s : List ℕ} {ps : List Point} → Calls s ps → s ≡ saved (run ps).map
unfolding run run_from extended
calls_run begun = refl
calls_run (served {s} {ps} p c o) =
    ap (take (length (file_after s p))) (served_leaves s p o refl)
    ∙ take-append_seam (file_after s p) _
    ∙ ap (λ (u : List ℕ). file_after u p) (calls_run c)
    ∙ file_of_offer (run ps).map (run_sound ps) p
    ∙ ap saved (sym (extended_map (run ps) p))
    ∙ ap (λ (r : Run). saved r.map) (sym (one_more ps p))
calls_run (refused p c o n) = calls_run c

-- that map is what is loaded from it,
pub calls_load : {s : List ℕ} {ps : List Point} → Calls s ps → loaded s ≡ Ok (run ps).map
calls_load {ps} c = ap loaded (calls_run c) ∙ load_of_save is_saved (run ps).map (run_sound ps)

-- and the accepted offers of the run are the served ones
pub calls_history : {s : List ℕ} {ps : List Point} → Calls s ps → map offered_point (run ps).history ≡ ps
unfolding run run_from offered_point
calls_history begun = refl
calls_history (served {s} {ps} p c o) =
    ap (λ (r : Run). map offered_point r.history) (one_more ps p)
    ∙ served_adds (run ps) p
    (free_of_map (run ps).map (run_sound ps) p (calls_run c) (served_free s p o refl))
    ∙ ap (λ (qs : List Point). qs ++ p ∷ []) (calls_history c)
calls_history (refused p c o n) = calls_history c
