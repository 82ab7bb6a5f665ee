-- `replies::writing::check_room` meets its contract: one list after the other.
use mathlib.Core.Path.{ap, ◌∙◌}
use mathlib.Core.Bool.{Bool, ◌||◌, or-true}
use lib.Dec.{ltb}
use lib.ListN.{length}
use borrow.Author.Tests.{lt-ltb, le-ltb}
use Rattle.engine.proofs.Entries.{rule_found, rule_passed}
use Rattle.replies.proofs.writing.check_room.Goals as goal
use Rattle.replies.proofs.writing.check_room.Goals.{then-out-first-via-then-out-first, then-out-first-via-else-out-first+then-beside-second}

pub returns-then-out-first : goal.returns-then-out-first
returns-then-out-first g c =
    elim c.then-out-first.branch [
      | then-out-first-via-then-out-first w ↦
          rule_found _
          (ap (λ (b : Bool). b || ltb (length c.args.beside.now) c.args.second)
          (lt-ltb _ _ w.if-out-first.true))
      | then-out-first-via-else-out-first+then-beside-second w ↦
          rule_found _
          (ap (λ (b : Bool). ltb (length c.args.out.now) c.args.first || b)
          (lt-ltb _ _ w.if-beside-second.true)
          ∙ or-true _)
    ]

pub returns : goal.returns
returns g c =
    rule_passed _ (λ i. le-ltb _ _ c.if-out-first.false i || le-ltb _ _ c.if-beside-second.false i)
