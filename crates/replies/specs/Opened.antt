-- The map of a file after checks: the answer is the file's map, or the refusal of the first rule that
-- applies. Document 01: "loading looks at 7 before 1".
use Rattle.std.specs.Prelude.{◌≡◌, not, List, ◌∷◌, ℕ}
use Rattle.std.specs.declared.result.Result.{Result}
use Rattle.std.specs.declared.result.Result.TheVariants.{Ok, Err}
use Rattle.model.specs.declared.Refusal.{Refusal}
use Rattle.model.specs.declared.Map.{Map}
use Rattle.model.specs.Refusals.{Rule, ◌when◌, unless}
use Rattle.model.specs.Saved.{file_in_form, map_in}

-- the rules of a call about the map of a file: number 7 comes before them
abbrev pub of_file : List ℕ → (Map → List Rule) → List Rule
of_file s rules = (Refusal.BadFile when not (file_in_form s)) ∷ rules (map_in s)

pub record Opened (s : List ℕ) (rules : List Rule) (l : Result Map Refusal) : Type 0 where
  pub equal : l ≡ unless Err rules (Ok (map_in s))
