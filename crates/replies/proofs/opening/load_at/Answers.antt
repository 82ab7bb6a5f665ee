-- `replies::opening::load_at` meets its contract: the file is loaded, and then the dart looked for.
use mathlib.Core.Path.{◌≡◌, ap}
use mathlib.Core.Bool.{Bool, not}
use mathlib.Core.List.{List}
use Prim.Native.Nat.{ℕ}
use Rattle.std.specs.declared.result.Result.TheVariants.{Ok}
use Rattle.model.specs.declared.Map.{Map}
use Rattle.model.specs.Refusals.{Rule}
use Rattle.model.specs.Maps.{is_present}
use Rattle.model.specs.Saved.{map_in}
use Rattle.deciding.proofs.Verdicts.{passed_up}
use Rattle.engine.proofs.Rules.{tested}
use Rattle.replies.specs.Opened.{Opened}
use Rattle.replies.proofs.OpenedFiles.{loads, opened_map, refused_already, served_further, refused_further}
use Rattle.replies.proofs.opening.load_at.Goals as goal

-- the dart is looked for in the map of the file
in_file : {s : List ℕ} {rules : List Rule} {m : Map} → Opened s rules (Ok m) → (d : ℕ) {b : Bool} →
    not (is_present m d) ≡ b → not (is_present (map_in s) d) ≡ b
in_file o d e = rw (opened_map o) at e

pub returns-in_err-map : goal.returns-in_err-map
returns-in_err-map c =
    rw (passed_up _ _ c.from_residual.ensures.1) (refused_already _ _ _ (loads c.in_err-map.ensures))

pub returns-then-not-is_present : goal.returns-then-not-is_present
returns-then-not-is_present c =
    let o = loads c.in_ok-map.ensures in
    refused_further _ _ _ o
    (in_file o c.args.dart (tested c.is_present.ensures (ap not c.if-not-is_present.true)))

pub returns : goal.returns
returns c =
    let o = loads c.in_ok-map.ensures in
    served_further _ _ _ o
    (in_file o c.args.dart (tested c.is_present.ensures (ap not c.if-not-is_present.false)))
