-- `layout::saved_length` meets its contract: by whether the version has notes.
use native.Mathlib.Omega.{arith}
use Rattle.layout.proofs.Form.{old_notes, new_notes}
use Rattle.layout.proofs.saved_length.Goals as goal

pub returns-then-version-eq-OLD_VERSION : goal.returns-then-version-eq-OLD_VERSION
returns-then-version-eq-OLD_VERSION c = let a = c.args in
    omega (arith, old_notes a.version a.count c.if-version-eq-OLD_VERSION.true)

pub returns-else-version-eq-OLD_VERSION : goal.returns-else-version-eq-OLD_VERSION
returns-else-version-eq-OLD_VERSION c = let a = c.args in
    omega (arith, new_notes a.version a.count c.if-version-eq-OLD_VERSION.false)
