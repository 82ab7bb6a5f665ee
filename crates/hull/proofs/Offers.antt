-- What an offer comes to: a refusal, by the first rule that applies, which leaves the map as it was; or an
-- arrival, of which every condition of refusal is known to fail. In the order of this page: a sound map passes the
-- first rule; the two outcomes; a refused offer keeps the map, and every offer keeps a map sound; the number of the
-- answer.
use mathlib.Core.Path.{◌≡◌, refl, ap, subst, ◌∙◌}
use Prim.Native.Nat.{ℕ}
use native.Mathlib.Omega.{arith}
use lib.Dec.{T, T_not}
use Rattle.std.specs.declared.result.Result.{Result}
use Rattle.std.specs.declared.result.Result.TheVariants.{Ok, Err}
use Rattle.finite.specs.Tests.{not_not}
use Rattle.model.specs.declared.Refusal.{Refusal}
use Rattle.model.specs.declared.Point.{Point}
use Rattle.model.specs.declared.Map.{Map}
use Rattle.model.specs.declared.Offered.{Offered}
use Rattle.model.specs.Refusals.{number, unless, Refuses, at_once, later, nor}
use Rattle.model.specs.Answers.{arrival_answer, arrival_of, offer_answer}
use Rattle.model.specs.Sound.{sound}
use Rattle.model.specs.Reading.{unsound}
use Rattle.model.specs.Arrival.{arrive, admission_rules}
use Rattle.model.specs.Offers.{offer_rules, offer, map_after}
use Rattle.model.proofs.Answers.{RulesDecide, refuses, serves, unless_decides, unless_made, unless_none}
use Rattle.sight.specs.Requires.{Accepted}
use Rattle.hull.proofs.Outcomes.{accepted_by, none_applies, arrive_arrives, arrival_served}
use Rattle.hull.proofs.Sound.{sound_shaped, sound_grows}

-- a sound map passes the first rule
pub sound_passes : (m : Map) → T (sound m) → ¬ T (unsound m).applies
sound_passes m s t = T_not (sound m) t s

-- what an offer comes to: the map is sound and the point accepted, or refused by the first rule that applies
pub data Decided (m : Map) (p : Point) : Result Offered Refusal → Type 0 where
  accepted : T (sound m) → Accepted m p → Decided m p (Ok (arrive m p))
  refused : (r : Refusal) → Refuses r (offer_rules m p) → Decided m p (Err r)

module _ (m : Map) (p : Point) where
  decided_by : (o : Result Offered Refusal) → RulesDecide Err (offer_rules m p) (Ok (arrive m p)) o → Decided m p o
  decided_by o (refuses r first) = refused r first
  decided_by o (serves (nor unsound free)) =
      let s = not_not (sound m) unsound in accepted s (accepted_by p (sound_shaped m s) free)

  pub offer_decided : Decided m p (offer m p)
  unfolding offer
  offer_decided = decided_by (offer m p) (unless_decides Err (offer_rules m p) (Ok (arrive m p)))

  -- a refused offer leaves the map as it was
  pub refused_keeps : (r : Refusal) → offer m p ≡ Err r → map_after m (offer m p) ≡ m
  unfolding map_after
  refused_keeps r e = ap (map_after m) e

  -- every offer keeps a map sound
  pub sound_kept : T (sound m) → T (sound (map_after m (offer m p)))
  unfolding map_after
  sound_kept t = keeps (offer m p) offer_decided
    where
      keeps : (o : Result Offered Refusal) → Decided m p o → T (sound (map_after m o))
      keeps o (accepted s a) = sound_grows s a
      keeps o (refused r by_rule) = t

-- ---- a point offered to a sound map

module _ (m : Map) (s : T (sound m)) (p : Point) where
  -- one that no condition refuses is not refused
  pub not_refused : Accepted m p → offer m p ≡ Ok (arrive m p)
  unfolding offer
  not_refused a = unless_none Err (Ok (arrive m p)) (nor (sound_passes m s) (none_applies p a))

  -- a refusal is that of the first rule of its own that applies
  pub refused_sound : (r : Refusal) → offer m p ≡ Err r → Refuses r (admission_rules m p)
  refused_sound r e = passed (by_rule (offer m p) (offer_decided m p) e)
    where
      by_rule : (o : Result Offered Refusal) → Decided m p o → o ≡ Err r → Refuses r (offer_rules m p)
      by_rule o (accepted t a) e = absurd (let z : ◌≡◌ {A = ℕ} 0 1 = cc in omega arith)
      by_rule o (refused q first_rule) e =
          let same : q ≡ r = cc in subst (λ (t : Refusal). Refuses t (offer_rules m p)) same first_rule

      passed : Refuses r (offer_rules m p) → Refuses r (admission_rules m p)
      passed (at_once t e) = absurd (sound_passes m s t)
      passed (later n first_rule) = first_rule

-- ---- the number of the answer

-- "The lowest number that applies is given", 0 where none does
pub offer_number : (m : Map) (p : Point) →
    (offer_answer (offer m p)).number ≡ unless number (offer_rules m p) 0
unfolding offer arrival_answer arrival_of
offer_number m p =
    unless_made (λ (o : Result Offered Refusal). (offer_answer o).number) Err number (λ r. refl) (offer_rules m p)
    (Ok (arrive m p))
    ∙ ap (unless number (offer_rules m p)) (arrival_served m p (arrive m p) (arrive_arrives m p))
