-- `printing::answers::refused_length` meets its contract: the word, a line feed and one value.
use mathlib.Core.Path.{◌≡◌, ap}
use mathlib.Core.List.{[], ◌∷◌}
use Prim.Native.Nat.{◌+◌}
use native.Mathlib.Omega.{arith}
use lib.ListN.{length}
use Rattle.model.specs.Spelling.{bytes}
use Rattle.model.specs.Answers.{refused}
use Rattle.model.specs.Report.{printed}
use Rattle.printing.proofs.Printed.{refused_as, line_length, refused_most}
use Rattle.printing.proofs.answers.refused_length.Goals as goal
use Rattle.printing.proofs.answers.refused_length.Goals.{After-values_length}

whole : (c : After-values_length) → 8 + c.values_length.result ≡ length (printed (refused
    c.args.refusal))
unfolding bytes
whole c =
    omega (
      arith,
      c.values_length.ensures,
      ap length (refused_as c.args.refusal _ c.from.ensures),
      line_length (bytes "refused") (c.from.result ∷ []),
    )

pub overflow_add-result : goal.overflow_add-result
overflow_add-result c =
    omega (arith, whole (goal.at.overflow_add-result c).After-values_length, refused_most c.args.refusal)

pub returns : goal.returns
returns c = whole (goal.at.returns c).After-values_length
