-- A map of which a dart is checked.
use Rattle.std.specs.Prelude.{◌≡◌, ℕ}
use Rattle.std.specs.declared.result.Result.{Result}
use Rattle.std.specs.declared.result.Result.TheVariants.{Ok, Err}
use Rattle.model.specs.declared.Map.{Map}
use Rattle.model.specs.declared.SoundMap.{SoundMap}
use Rattle.model.specs.declared.Refusal.{Refusal}
use Rattle.model.specs.Answers.{outcome_by}
use Rattle.model.specs.Reading.{dart_rules}

-- the map itself, lent as a sound one, or the number of the rule that it or the dart breaks
abbrev pub CheckedDart : Map → ℕ → Result SoundMap Refusal → Type 0
CheckedDart m d (Ok s) = (s.map.now ≡ m) × (Ok tt ≡ outcome_by (dart_rules m d))
CheckedDart m d (Err e) = Err e ≡ outcome_by (dart_rules m d)
