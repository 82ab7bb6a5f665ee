-- Demand 3 at the boundary with removals, in the order of this page: what a call that offers a point or takes
-- one back leaves, by the number that it returns; the file that it leaves of a sound map's file is that of
-- the map after it. So after calls from the empty map's file on, whatever each returned, the caller has the
-- file of the map of the served calls (`acted_run`), of which demand 3 is proved, and its history has just the
-- points of the served offers that no served removal took back (`acted_history`).
use mathlib.Core.Path.{◌≡◌, refl, sym, ap, subst, ◌∙◌}
use mathlib.Core.Logic.{◌≢◌}
use mathlib.Core.Bool.{Bool, not, ◌||◌}
use mathlib.Core.List.{List, [], ◌∷◌, ◌++◌, map}
use Prim.Native.Nat.{ℕ, zero, suc, ◌-◌}
use lib.Dec.{T}
use lib.ListN.{length, length-map, drop, take}
use lib.Seq.{take-append_seam}
use Rattle.std.specs.declared.result.Result.{Result}
use Rattle.std.specs.declared.result.Result.TheVariants.{Ok, Err}
use Rattle.finite.specs.Tests.{is_true}
use Rattle.model.specs.declared.Refusal.{Refusal}
use Rattle.model.specs.declared.Point.{Point}
use Rattle.model.specs.declared.Map.{Map}
use Rattle.model.specs.Refusals.{Rule, ◌when◌, unless, NoneApplies, nor}
use Rattle.model.specs.Sound.{sound}
use Rattle.model.specs.Arrival.{arrive}
use Rattle.model.specs.Offers.{offer_rules, offer_call, offer, map_after}
use Rattle.model.specs.Removal.{before_last, remove_call, remove, map_left}
use Rattle.model.specs.History.{Run, Action, offering, taking_back, taken_back_by, taken_back, acted, performed_from, performed, offered_point}
use Rattle.model.specs.Lent.{and_short, is_short, lent_after}
use Rattle.model.specs.Saved.{map_in, saved, file_in_form, loaded}
use Rattle.model.proofs.Sound.{sound_is}
use Rattle.model.proofs.Answers.{unless_none}
use Rattle.model.proofs.Answers.{none_both, rule_passes, unless_made}
use Rattle.hull.proofs.Sound.{sound_shaped}
use Rattle.hull.proofs.Actions.{performed_more, performed_sound}
use Rattle.layout.proofs.Form.{is_saved}
use Rattle.saved.proofs.Files.{saved_in_form, map_back}
use Rattle.loading.proofs.Saving.{load_of_save}
use Rattle.replies.specs.Served.{number_by, Served}
use Rattle.replies.specs.Opened.{of_file}
use Rattle.replies.specs.Replies.{Offering, meaning_of, arrival_told, from_file, removal_reply}
use Rattle.replies.specs.Chains.{file_after}
use Rattle.replies.specs.Actions.{file_before, file_acted, Called, offered, removed}
use Rattle.replies.specs.Actions.{CallsActed, begun, served, refused, stands, standing_from, standing}
use Rattle.reports.proofs.Histories.{extended_map}
use Rattle.replies.proofs.Chains.{none_numbered, some_numbered, served_adds}

-- ---- what a call leaves

-- a call by these rules, with number 10 after them, that writes a file to a lent list
record Writes (rules : List Rule) (file : List ℕ) (short : Bool) (before after : List ℕ) (k : ℕ) : Type 0 where
  code : k ≡ number_by (and_short rules short)
  list : after ≡ lent_after (and_short rules short) file before

module _ {rules : List Rule} {file : List ℕ} {short : Bool} {before after : List ℕ} {k : ℕ}
    (w : Writes rules file short before after k) where
  none_applies : k ≡ 0 → NoneApplies (and_short rules short)
  none_applies e = none_numbered (and_short rules short) (sym w.code ∙ e)

  -- served: none of its rules applies,
  free : k ≡ 0 → NoneApplies rules
  free e = (none_both rules (none_applies e)).0

  -- and the lent list starts with the file, and keeps its tail
  leaves : (s : List ℕ) → k ≡ 0 →
      after ≡ unless (λ r. s) rules file ++ drop (length (unless (λ r. s) rules file)) before
  leaves s e =
      w.list
      ∙ unless_none (λ r. before) (file ++ drop (length file) before) (none_applies e)
      ∙ ap (λ (t : List ℕ). t ++ drop (length t) before) (sym (unless_none (λ r. s) file (free e)))

  -- refused, with any number: the lent list is as it was
  stays : k ≢ 0 → after ≡ before
  stays n = w.list ∙ some_numbered (and_short rules short) before _ (λ e. n (w.code ∙ e))

module _ (s : List ℕ) where
  offer_writes : (p : Point) {before after before' after' : List ℕ} {k : ℕ} →
      Offering s p before after before' after' k →
      Writes (of_file s (λ m. (offer_call m p).rules)) (saved (offer_call (map_in s) p).value.map)
      (is_short (saved (offer_call (map_in s) p).value.map) before
      || is_short (arrival_told (meaning_of (offer_call (map_in s) p))) before')
      before after k
  offer_writes p o = record { code = o.code; list = o.list }

  removal_writes : {before after : List ℕ} {k : ℕ} → Served (from_file removal_reply s) before after k →
      Writes (of_file s (λ m. (remove_call m).rules)) (saved (remove_call (map_in s)).value)
      (is_short (saved (remove_call (map_in s)).value) before) before after k
  removal_writes o = record { code = o.code; list = o.list }

pub served_leaves : {s : List ℕ} {act : Action} {before after : List ℕ} → Called s act before after 0 →
    after ≡ file_acted s act ++ drop (length (file_acted s act)) before
unfolding file_acted file_after file_before
served_leaves {s} (offered {p} o) = leaves (offer_writes s p o) s refl
served_leaves {s} (removed o) = leaves (removal_writes s o) s refl

pub refused_leaves : {s : List ℕ} {act : Action} {before after : List ℕ} {k : ℕ} →
    Called s act before after k → k ≢ 0 → after ≡ before
refused_leaves {s} (offered {p} o) n = stays (offer_writes s p o) n
refused_leaves {s} (removed o) n = stays (removal_writes s o) n

-- ---- the file of a sound map

module _ (m : Map) (t : T (sound m)) where
  map_kept : map_in (saved m) ≡ m
  map_kept = map_back is_saved (sound_shaped m t) (λ e. (sound_is m t).is_built)

  -- a call whose refusals keep the map: what it leaves of the file is the file of the map after it
  file_of : {A : Type 0} (map_of : Result A Refusal → Map) (rules : List Rule) (value : A) →
      ((r : Refusal) → map_of (Err r) ≡ m) →
      unless (λ r. saved m) ((Refusal.BadFile when not (file_in_form (saved m))) ∷ rules)
      (saved (map_of (Ok value)))
      ≡ saved (map_of (unless Err rules (Ok value)))
  file_of map_of rules value keeps =
      sym
      (rule_passes (λ r. saved m) (Refusal.BadFile when not (file_in_form (saved m))) rules
      (saved (map_of (Ok value)))
      (ap not (is_true (file_in_form (saved m)) (saved_in_form is_saved (sound_shaped m t))))
      (unless_made (λ a. saved (map_of a)) Err (λ r. saved m) (λ r. ap saved (keeps r)) rules (Ok value)))

  -- where no rule of a call on the file applies, none of the same call on the map does
  free_of_map : (rules : Map → List Rule) {s : List ℕ} → s ≡ saved m → NoneApplies (of_file s rules) →
      NoneApplies (rules m)
  free_of_map rules e f = go (subst (λ (u : List ℕ). NoneApplies (of_file u rules)) e f)
    where
      go : NoneApplies (of_file (saved m) rules) → NoneApplies (rules m)
      go (nor n rest) = subst (λ (n : Map). NoneApplies (rules n)) map_kept rest

-- the map of a run goes on as the removal gives it
taken_back_map : (r : Run) → (taken_back r).map ≡ map_left r.map (remove r.map)
unfolding taken_back taken_back_by map_left
taken_back_map r = go (remove r.map)
  where
    go : (o : Result Map Refusal) → (taken_back_by r o).map ≡ map_left r.map o
    go (Ok m) = refl
    go (Err x) = refl

module _ (r : Run) (t : T (sound r.map)) where
  file_of_offer : (p : Point) → file_after (saved r.map) p ≡ saved (map_after r.map (offer r.map p))
  unfolding file_after offer map_after
  file_of_offer p =
      let m = r.map in
      rw (map_kept m t) (file_of m t (map_after m) (offer_rules m p) (arrive m p) (λ x. refl))

  file_of_removal : file_before (saved r.map) ≡ saved (map_left r.map (remove r.map))
  unfolding file_before remove map_left
  file_of_removal =
      let m = r.map in
      rw (map_kept m t) (file_of m t (map_left m) (remove_call m).rules (before_last m) (λ x. refl))

  file_of_action : (act : Action) → file_acted (saved r.map) act ≡ saved (acted r act).map
  unfolding file_acted acted
  file_of_action (offering p) = file_of_offer p ∙ ap saved (sym (extended_map r p))
  file_of_action taking_back = file_of_removal ∙ ap saved (sym (taken_back_map r))

-- ---- the points of a history

map_take : {A B : Type 0} (f : A → B) (n : ℕ) (xs : List A) → map f (take n xs) ≡ take n (map f xs)
map_take f zero xs = refl
map_take f (suc n) [] = refl
map_take f (suc n) (x ∷ xs) = ap (λ ys. f x ∷ ys) (map_take f n xs)

abbrev points : Run → List Point
points r = map offered_point r.history

-- a removal that is not refused takes back the last point
served_takes : (r : Run) → NoneApplies (remove_call r.map).rules →
    points (taken_back r) ≡ take (length (points r) - 1) (points r)
unfolding taken_back taken_back_by remove
served_takes r free =
    ap (λ (o : Result Map Refusal). points (taken_back_by r o))
    (unless_none Err (Ok (before_last r.map)) free)
    ∙ map_take offered_point (length r.history - 1) r.history
    ∙ ap (λ (n : ℕ). take (n - 1) (points r)) (sym (length-map r.history offered_point))

-- a served call brings its point, or takes back the last one
module _ (r : Run) (t : T (sound r.map)) {s : List ℕ} (same : s ≡ saved r.map) where
  served_stands : {act : Action} {before after : List ℕ} → Called s act before after 0 →
      points (acted r act) ≡ stands (points r) act
  unfolding acted stands
  served_stands (offered {p} o) =
      served_adds r p
      (free_of_map r.map t (λ m. (offer_call m p).rules) same (free (offer_writes s p o) refl))
  served_stands (removed o) =
      served_takes r (free_of_map r.map t (λ m. (remove_call m).rules) same (free (removal_writes s o) refl))

standing_more_from : (ps : List Point) (acts : List Action) (act : Action) →
    standing_from ps (acts ++ act ∷ []) ≡ stands (standing_from ps acts) act
unfolding standing_from
standing_more_from ps [] act = refl
standing_more_from ps (next ∷ acts) act = standing_more_from (stands ps next) acts act

-- ---- calls, whatever each returned

-- the file that the caller has is that of the map of the served calls, of which
-- `balanced_with_removals` speaks,
pub acted_run : {s : List ℕ} {acts : List Action} → CallsActed s acts → s ≡ saved (performed acts).map
unfolding performed performed_from
acted_run begun = refl
acted_run (served {s} {acts} act c o) =
    ap (take (length (file_acted s act))) (served_leaves o)
    ∙ take-append_seam (file_acted s act) _
    ∙ ap (λ (u : List ℕ). file_acted u act) (acted_run c)
    ∙ file_of_action (performed acts) (performed_sound acts) act
    ∙ ap (λ (r : Run). saved r.map) (sym (performed_more acts act))
acted_run (refused act c o n) = acted_run c

-- that map is what is loaded from it,
pub acted_load : {s : List ℕ} {acts : List Action} → CallsActed s acts →
    loaded s ≡ Ok (performed acts).map
acted_load {acts} c =
    ap loaded (acted_run c) ∙ load_of_save is_saved (performed acts).map (performed_sound acts)

-- and the accepted offers of its history are the served ones that were not taken back
pub acted_history : {s : List ℕ} {acts : List Action} → CallsActed s acts →
    map offered_point (performed acts).history ≡ standing acts
unfolding performed performed_from standing standing_from
acted_history begun = refl
acted_history (served {s} {acts} act c o) =
    ap points (performed_more acts act)
    ∙ served_stands (performed acts) (performed_sound acts) (acted_run c) o
    ∙ ap (λ (ps : List Point). stands ps act) (acted_history c)
    ∙ sym (standing_more_from [] acts act)
acted_history (refused act c o n) = acted_history c
