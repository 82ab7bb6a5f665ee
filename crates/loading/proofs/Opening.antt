-- The answer on the map of a file in form.
use mathlib.Core.Path.{◌≡◌, ap}
use mathlib.Core.Bool.{true, false, not}
use mathlib.Core.List.{List, []}
use Prim.Native.Nat.{ℕ}
use Rattle.std.specs.declared.result.Result.TheVariants.{Ok, Err}
use Rattle.model.specs.declared.Refusal.{Refusal}
use Rattle.model.specs.Sound.{sound}
use Rattle.model.specs.Reading.{unsound}
use Rattle.model.specs.Saved.{map_in}
use Rattle.model.proofs.Answers.{rule_applies, rule_passes, no_rule}
use Rattle.loading.specs.Opening.{opened}

module _ (s : List ℕ) where
  pub opened_sound : sound (map_in s) ≡ true → Ok (map_in s) ≡ opened s
  opened_sound e =
      rule_passes Err (unsound (map_in s)) [] (Ok (map_in s)) (ap not e) (no_rule Err (Ok (map_in s)))

  pub opened_unsound : sound (map_in s) ≡ false → Err Refusal.NotSound ≡ opened s
  opened_unsound e = rule_applies Err (unsound (map_in s)) [] (Ok (map_in s)) (ap not e)
