-- The map of a file in form: number 1 where it is not sound.
use Rattle.std.specs.Prelude.{List, [], ◌∷◌, ℕ}
use Rattle.std.specs.declared.result.Result.{Result}
use Rattle.std.specs.declared.result.Result.TheVariants.{Ok, Err}
use Rattle.model.specs.declared.Refusal.{Refusal}
use Rattle.model.specs.declared.Map.{Map}
use Rattle.model.specs.Refusals.{unless}
use Rattle.model.specs.Reading.{unsound}
use Rattle.model.specs.Saved.{map_in}

abbrev pub opened : List ℕ → Result Map Refusal
opened s = unless Err (unsound (map_in s) ∷ []) (Ok (map_in s))
