-- `reach::reach_check` meets its contract: what loading comes to, as a number.
use mathlib.Core.Path.{refl, ap, ◌∙◌}
use Rattle.std.specs.declared.result.Result.{Result}
use Rattle.std.specs.declared.result.Result.TheVariants.{Err}
use Rattle.model.specs.declared.Refusal.{Refusal}
use Rattle.model.specs.declared.Map.{Map}
use Rattle.model.specs.Refusals.{number}
use Rattle.model.proofs.Answers.{unless_made}
use Rattle.replies.specs.Served.{code_of}
use Rattle.reach.proofs.reach_check.Goals as goal

pub returns : goal.returns
returns c =
    c.code.ensures
    ∙ ap (λ (l : Result Map Refusal). code_of l) c.load.ensures.equal
    ∙ unless_made (λ (l : Result Map Refusal). code_of l) Err number (λ r. refl) _ _
