-- What a loop comes to that offers points anew (hull/proofs/Taking): the map that they build, or none, and what
-- either tells. Then what `ok()` tells of a result.
use mathlib.Core.Path.{◌≡◌, refl, sym, ap, ◌∙◌}
use mathlib.Core.List.{List}
use Prim.Native.Nat.{ℕ, ◌≤◌}
use native.Mathlib.Omega.{arith}
use lib.ListN.{length}
use Rattle.std.specs.Prelude.{Option, Some, None}
use Rattle.std.specs.Result.{result_ok}
use Rattle.std.specs.declared.result.Result.{Result}
use Rattle.std.specs.declared.result.Result.TheVariants.{Ok, Err}
use Rattle.model.specs.declared.Refusal.{Refusal}
use Rattle.model.specs.declared.Point.{Point}
use Rattle.model.specs.declared.Map.{Map}
use Rattle.model.specs.Refusals.{NoneApplies}
use Rattle.model.specs.Answers.{outcome_by}
use Rattle.model.specs.Maps.{empty_map}
use Rattle.model.specs.Building.{building_rules, built}
use Rattle.model.proofs.Answers.{RulesDecide, refuses, serves, unless_decides, unless_none, outcome_refuses, outcome_serves}
use Rattle.admission.specs.declared.hashes.Hashes.{Hashes}
use Rattle.hull.proofs.Taking.{Taking, all_served, all_built}
use Rattle.soundness.specs.Rebuilding.{rebuilt}

pub rebuilt_whole : {ps : List Point} {k : ℕ} {m : Map} {hashes : Hashes} → Taking ps k m hashes → length ps ≤ k →
    Some m ≡ rebuilt ps
rebuilt_whole {ps} t done =
    ap Some (all_built t done)
    ∙ outcome_serves (λ r. None) (Some (built empty_map ps)) (building_rules empty_map ps) (all_served t done)

pub rebuilt_part : (ps : List Point) (r : Refusal) → Err r ≡ outcome_by (building_rules empty_map ps) → None ≡ rebuilt ps
rebuilt_part ps r refused =
    outcome_refuses (λ r. None) (Some (built empty_map ps)) (building_rules empty_map ps) r refused

-- what the map tells, where it was built, and where it was not
module _ (ps : List Point) where
  pub rebuilt_some : (m : Map) → rebuilt ps ≡ Some m → NoneApplies (building_rules empty_map ps) × (m ≡ built empty_map ps)
  rebuilt_some m = go (rebuilt ps) (unless_decides (λ r. None) (building_rules empty_map ps) (Some (built empty_map ps)))
    where
      go : (x : Option Map) → RulesDecide (λ r. None) (building_rules empty_map ps) (Some (built empty_map ps)) x →
          x ≡ Some m → NoneApplies (building_rules empty_map ps) × (m ≡ built empty_map ps)
      go x (refuses r first) e = absurd (let z : ◌≡◌ {A = ℕ} 0 1 = cc in omega arith)
      go x (serves free) e = (free, cc)

  pub rebuilt_none : rebuilt ps ≡ None → ¬ NoneApplies (building_rules empty_map ps)
  rebuilt_none e free =
      let other = sym e ∙ unless_none (λ r. None) (Some (built empty_map ps)) free in
      absurd (let z : ◌≡◌ {A = ℕ} 0 1 = cc in omega arith)

-- what `ok()` tells of a result
pub ok_some : {A : Type 0} (r : Result A Refusal) (a : A) → result_ok r ≡ Some a → r ≡ Ok a
ok_some (Ok u) a e = let same : u ≡ a = cc in ap Ok same
ok_some (Err x) a e = absurd (let z : ◌≡◌ {A = ℕ} 0 1 = cc in omega arith)

pub ok_none : {A : Type 0} (r : Result A Refusal) → result_ok r ≡ None → (x : Refusal) × (r ≡ Err x)
ok_none (Ok u) e = absurd (let z : ◌≡◌ {A = ℕ} 0 1 = cc in omega arith)
ok_none (Err x) e = (x, refl)
