-- `orbits::DartSet::contains` answers `has`: false past the darts, and below them what the mask
-- leaves of the word.
use mathlib.Core.Path.{sym}
use native.Mathlib.Omega.{arith}
use Rattle.orbits.proofs.Sets.{has_past, has_by_mask}
use Rattle.orbits.proofs.DartSet.contains.Goals as goal

pub returns-then-w-ge16 : goal.returns-then-w-ge16
returns-then-w-ge16 c = sym (has_past c.args.self c.args.d (omega arith))

pub returns : goal.returns
returns c = has_by_mask c.args.self c.args.d (omega arith)
