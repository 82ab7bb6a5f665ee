-- What becomes of a line on a sound map, in the order of this page: a refusal that is passed up; its point
-- is accepted and arrives, or the line is refused, and for which numbers; what an arrival reports is small;
-- what the code finds of the map's points.
use mathlib.Core.Path.{◌≡◌, refl, sym, ap, subst, ◌∙◌}
use Prim.Native.Nat.{ℕ, ◌≤◌}
use lib.Dec.{T}
use native.Mathlib.Omega.{arith}
use Rattle.std.specs.declared.result.Result.{Result}
use Rattle.std.specs.declared.result.Result.TheVariants.{Ok, Err}
use Rattle.std.specs.Result.{IsErrAnd}
use Rattle.std.proofs.lemmas.Result.{err_from_is_err_and}
use Rattle.model.specs.declared.Refusal.{Refusal}
use Rattle.model.specs.declared.Point.{Point}
use Rattle.model.specs.declared.Map.{Map}
use Rattle.model.specs.declared.Offered.{Offered}
use Rattle.model.specs.Refusals.{Refuses, at_once, later, NoneApplies, nor}
use Rattle.model.specs.Answers.{outcome_by}
use Rattle.model.specs.Maps.{point_limit}
use Rattle.model.specs.Sound.{sound}
use Rattle.model.specs.Arrival.{arrive, admission_rules}
use Rattle.model.specs.Outline.{visible_edges}
use Rattle.model.specs.Offers.{offer}
use Rattle.model.specs.Report.{offer_line}
use Rattle.model.proofs.Answers.{RulesDecide, refuses, serves, unless_decides, unless_none, unless_refuses, served_none}
use Rattle.admission.specs.Admission.{admission_by}
use Rattle.admission.proofs.Rules.{rules_by_points}
use Rattle.hull.proofs.Sound.{sound_shaped}
use Rattle.hull.proofs.Offers.{sound_passes}
use Rattle.hull.proofs.Admissions.{visible_most, corners_below}
use Rattle.sight.specs.Requires.{Accepted}
use Rattle.hull.proofs.Outcomes.{accepted_by, Arrives, first, second, inside, outside, arrive_arrives}
use Rattle.deciding.specs.Deciding.{put_points}
use Rattle.lines.specs.Packing as packing
use Rattle.lines.specs.Packing.{OfLine, full, out_of_range, repeated, Packable}

-- the refusal that `?` passes up
pub passed_up : {A : Type 0} (r : Result A Refusal) (x : Refusal) → IsErrAnd r (λ y. y ≡ x) → r ≡ Err x
passed_up r x e = let p = err_from_is_err_and r e in p.1 ∙ ap Err p.2

-- ---- a line on a sound map

-- its point is accepted, or it is refused
pub data Decides (m : Map) (line : Result Point Refusal) : Result Offered Refusal → Type 0 where
  taken : {p : Point} → line ≡ Ok p → Accepted m p → Decides m line (Ok (arrive m p))
  refused : {r : Refusal} → Decides m line (Err r)

module _ (m : Map) (s : T (sound m)) (p : Point) where
  rule_refusal : {r : Refusal} → Refuses r (admission_rules m p) → OfLine r
  rule_refusal (at_once t e) = subst OfLine e full
  rule_refusal (later n (at_once t e)) = subst OfLine e out_of_range
  rule_refusal (later n (later k (at_once t e))) = subst OfLine e repeated
  rule_refusal {r = r} (later n (later k (later l none))) = elim none [ ]

  -- the rules refuse the point, with a number that a line can get
  module _ {r : Refusal} (f : Refuses r (admission_rules m p)) where
    pub point_refusal : OfLine r
    point_refusal = rule_refusal f

    pub point_refused : offer m p ≡ Err r
    unfolding offer
    point_refused = unless_refuses Err (Ok (arrive m p)) (later (sound_passes m s) f)

  -- or they do not
  module _ (f : NoneApplies (admission_rules m p)) where
    pub point_accepted : Accepted m p
    point_accepted = accepted_by p (sound_shaped m s) f

    pub point_taken : offer m p ≡ Ok (arrive m p)
    unfolding offer
    point_taken = unless_none Err (Ok (arrive m p)) (nor (sound_passes m s) f)

pub line_decides : (m : Map) → T (sound m) → (line : Result Point Refusal) →
    Decides m line (offer_line m line)
unfolding offer_line
line_decides m s (Err r) = refused
line_decides m s (Ok p) = go (unless_decides Err (admission_rules m p) (Ok (arrive m p)))
  where
    go : {o : Result Offered Refusal} → RulesDecide Err (admission_rules m p) (Ok (arrive m p)) o →
        Decides m (Ok p) (offer m p)
    go (refuses r f) =
        subst (Decides m (Ok p)) (sym (point_refused m s p f)) refused
    go (serves f) =
        subst (Decides m (Ok p)) (sym (point_taken m s p f)) (taken refl (point_accepted m s p f))

-- ---- the arrival of an accepted point

packable_by : {m : Map} {p : Point} → Accepted m p → (o : Offered) → Arrives m p o →
    Packable (Ok o.arrival)
packable_by a o (first e) = packing.first
packable_by a o (second e) = packing.second
packable_by a o (inside two e) = packing.inside
packable_by {m} {p} a o (outside two n) =
    let few : visible_edges m p ≤ point_limit = omega (arith, visible_most m p, a.room) in
    packing.outside
    (record {
      left_below = (corners_below a two).0;
      right_below = (corners_below a two).1;
      visible_most = few;
    })

pub arrive_packable : {m : Map} {p : Point} → Accepted m p → Packable (Ok (arrive m p).arrival)
arrive_packable {m} {p} a = packable_by a (arrive m p) (arrive_arrives m p)

-- ---- what the code finds of the points that the map has

module _ (m : Map) (s : T (sound m)) (p : Point) where
  rules_are : admission_by (put_points m) p ≡ outcome_by (admission_rules m p)
  unfolding admission_by
  rules_are =
      let shaped = sound_shaped m s in
      ap outcome_by (rules_by_points m p (omega (arith, shaped.links.fits, shaped.points.points_whole)))

  pub found_refusing : {r : Refusal} → Err r ≡ admission_by (put_points m) p → Refuses r (admission_rules m p)
  found_refusing {r} e = go (unless_decides Err (admission_rules m p) (Ok tt)) (e ∙ rules_are)
    where
      go : {o : Result (Unit {0}) Refusal} → RulesDecide Err (admission_rules m p) (Ok tt) o → Err r ≡ o →
          Refuses r (admission_rules m p)
      go (refuses q f) e =
          let same : q ≡ r = cc in subst (λ (x : Refusal). Refuses x (admission_rules m p)) same f
      go (serves f) e = absurd (let z : ◌≡◌ {A = ℕ} 0 1 = cc in omega arith)

  pub found_free : Ok tt ≡ admission_by (put_points m) p → NoneApplies (admission_rules m p)
  found_free e = served_none (admission_rules m p) (e ∙ rules_are)
