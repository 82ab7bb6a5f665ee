-- The laws of the map of a file after its checks, in the order of this page: what loading
-- answers; a check more; what a served file gives; what the exported functions promise from it, of
-- one list, or of a result and its length.
use mathlib.Core.Path.{◌≡◌, sym, ap, subst, ◌∙◌}
use mathlib.Core.Bool.{Bool, true, false, not}
use mathlib.Core.List.{List, [], ◌∷◌, ◌++◌}
use Prim.Native.Nat.{ℕ}
use lib.Dec.{T}
use Rattle.std.specs.declared.result.Result.{Result}
use Rattle.std.specs.declared.result.Result.TheVariants.{Ok, Err}
use Rattle.finite.specs.Tests.{not_not}
use Rattle.model.specs.declared.Refusal.{Refusal}
use Rattle.model.specs.declared.Point.{Point}
use Rattle.model.specs.declared.Map.{Map}
use Rattle.model.specs.Refusals.{number, Rule, ◌when◌, unless, NoneApplies, none, nor}
use Rattle.model.specs.Answers.{Answered}
use Rattle.model.specs.Plane.{in_range}
use Rattle.model.specs.Maps.{is_present}
use Rattle.model.specs.Shape.{Shaped}
use Rattle.model.specs.Sound.{sound}
use Rattle.model.specs.Reading.{unsound, dart_rules}
use Rattle.model.specs.Placing.{place_call}
use Rattle.model.specs.Saved.{load_call, map_in}
use Rattle.model.proofs.Answers.{rule_applies, rule_passes, no_rule, unless_append}
use Rattle.hull.proofs.Sound.{sound_shaped}
use Rattle.engine.proofs.Rules.{refused_by, free_by, value_by, served_by}
use Rattle.replies.specs.Served.{Reply, only, Served, ServedBoth}
use Rattle.replies.specs.Opened.{Opened, of_file}
use Rattle.replies.specs.Replies.{length_told}
use Rattle.replies.proofs.Serving.{refused_before, served_after, served_as, both_refused_before, both_served_after, both_at}

-- what loading answers
pub loads : {s : List ℕ} {l : Result Map Refusal} → Answered (load_call s) l → Opened s (load_call s).rules l
loads a = record { equal = a.equal }

-- ---- a check more

module _ (s : List ℕ) (rules : List Rule) (rule : Rule) where
  -- what the rules come to with it
  further : unless Err rules (unless Err (rule ∷ []) (Ok (map_in s)))
      ≡ unless Err (rules ++ rule ∷ []) (Ok (map_in s))
  further = sym (unless_append Err rules (rule ∷ []) (Ok (map_in s)))

  pub refused_already : {r : Refusal} → Opened s rules (Err r) → Opened s (rules ++ rule ∷ []) (Err r)
  refused_already o =
      record {
        equal = refused_by rules (map_in s) o.equal Err (unless Err (rule ∷ []) (Ok (map_in s))) ∙ further;
      }

  module _ {m : Map} (o : Opened s rules (Ok m)) where
    last_rule : unless Err (rule ∷ []) (Ok (map_in s)) ≡ unless Err (rules ++ rule ∷ []) (Ok (map_in s))
    last_rule = served_by rules (map_in s) o.equal Err (unless Err (rule ∷ []) (Ok (map_in s))) ∙ further

    pub served_further : rule.applies ≡ false → Opened s (rules ++ rule ∷ []) (Ok m)
    served_further f =
        record {
          equal =
              ap Ok (value_by rules (map_in s) o.equal)
              ∙ rule_passes Err rule [] (Ok (map_in s)) f (no_rule Err _)
              ∙ last_rule;
        }

    pub refused_further : rule.applies ≡ true → Opened s (rules ++ rule ∷ []) (Err rule.refusal)
    refused_further f = record { equal = rule_applies Err rule [] (Ok (map_in s)) f ∙ last_rule }

-- ---- what a served file gives

-- its map
pub opened_map : {s : List ℕ} {rules : List Rule} {m : Map} → Opened s rules (Ok m) → m ≡ map_in s
opened_map o = value_by _ _ o.equal

module _ {s : List ℕ} {more : List Rule} {m : Map}
    (o : Opened s (of_file s (λ n. unsound n ∷ more)) (Ok m)) where
  parts : NoneApplies (of_file s (λ n. unsound n ∷ more)) → T (sound (map_in s)) × NoneApplies more
  parts (nor form (nor unsound rest)) = (not_not (sound (map_in s)) unsound, rest)

  pub opened_whole : T (sound m)
  opened_whole = subst (λ (n : Map). T (sound n)) (sym (opened_map o)) (parts (free_by _ _ o.equal)).0

  pub opened_sound : Shaped m
  opened_sound = sound_shaped m opened_whole

  pub opened_further : NoneApplies more
  opened_further = (parts (free_by _ _ o.equal)).1

passed : (r : Refusal) (t : Bool) → NoneApplies ((r when not t) ∷ []) → T t
passed r t (nor n none) = not_not t n

pub opened_present : {s : List ℕ} {m : Map} (d : ℕ) →
    Opened s (of_file s (λ n. dart_rules n d)) (Ok m) → T (is_present m d)
opened_present {s} d o =
    subst (λ (n : Map). T (is_present n d)) (sym (opened_map o))
    (passed Refusal.NoDart (is_present (map_in s) d) (opened_further o))

pub opened_near : {s : List ℕ} {m : Map} (p : Point) →
    Opened s (of_file s (λ n. (place_call n p).rules)) (Ok m) → T (in_range p)
opened_near p o = passed Refusal.OutOfRange (in_range p) (opened_further o)

-- ---- what is promised from it

module _ {A : Type 0} {s : List ℕ} {before : List A} where
  pub opened_refused : {rules : List Rule} {values : List A} {r : Refusal} → Opened s rules (Err r) →
      Served (record { rules = rules ++ []; values = values }) before before (number r)
  opened_refused {rules} {values} o = refused_before rules (map_in s) (only values) before o.equal

  -- what was written is the reply at the map that was loaded
  pub opened_served : (f : Map → Reply A) {m : Map} {u after : List A} {k : ℕ} →
      Opened s (of_file s (λ n. (f n).rules)) (Ok m) →
      u ≡ (f m).values → Served (only u) before after k →
      Served
      (record { rules = of_file s (λ n. (f n).rules) ++ []; values = (f (map_in s)).values })
      before after k
  opened_served f o same w =
      served_after (of_file s (λ n. (f n).rules)) (map_in s) (only (f (map_in s)).values) before o.equal
      (served_as (same ∙ ap (λ (n : Map). (f n).values) (opened_map o)) w)

-- ---- a result of a file's map, and beside it how long it is

module _ {A : Type 0} (result : Map → List A) {s : List ℕ} {before : List A} {before' : List ℕ} where
  pub not_told : {r : Refusal} → Opened s (of_file s (λ n. unsound n ∷ [])) (Err r) →
      ServedBoth (of_file s (λ n. unsound n ∷ [])) (result (map_in s)) (length_told (result (map_in s)))
      before before before' before' (number r)
  not_told o = both_refused_before (of_file s (λ n. unsound n ∷ [])) [] (map_in s) _ _ _ _ o.equal

  pub told : {m : Map} {after : List A} {after' : List ℕ} {k : ℕ} →
      Opened s (of_file s (λ n. unsound n ∷ [])) (Ok m) →
      ServedBoth [] (result m) (length_told (result m)) before after before' after' k →
      ServedBoth (of_file s (λ n. unsound n ∷ [])) (result (map_in s)) (length_told (result (map_in s)))
      before after before' after' k
  told o w =
      both_served_after (of_file s (λ n. unsound n ∷ [])) [] (map_in s) _ _ _ _ o.equal
      (both_at (λ (n : Map). []) result (λ n. length_told (result n)) (opened_map o) w)
