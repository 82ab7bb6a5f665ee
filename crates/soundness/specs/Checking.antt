-- A map that is checked.
use Rattle.std.specs.Prelude.{◌≡◌, [], ◌∷◌}
use Rattle.std.specs.declared.result.Result.{Result}
use Rattle.std.specs.declared.result.Result.TheVariants.{Ok, Err}
use Rattle.model.specs.declared.Map.{Map}
use Rattle.model.specs.declared.SoundMap.{SoundMap}
use Rattle.model.specs.declared.Refusal.{Refusal}
use Rattle.model.specs.Answers.{outcome_by}
use Rattle.model.specs.Reading.{unsound}

-- the map itself, lent as a sound one, or number 1 where it is not sound
abbrev pub Checked : Map → Result SoundMap Refusal → Type 0
Checked m (Ok s) = (s.map.now ≡ m) × (Ok tt ≡ outcome_by (unsound m ∷ []))
Checked m (Err e) = Err e ≡ outcome_by (unsound m ∷ [])
