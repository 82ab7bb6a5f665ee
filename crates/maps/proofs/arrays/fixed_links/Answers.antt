-- `maps::arrays::fixed_links` meets its contract: every place holds its number.
use mathlib.Core.Path.{◌≡◌}
use native.Mathlib.Omega.{arith}
use lib.ListN.{get_or}
use borrow.Author.Rules.{rules}
use Rattle.orbits.specs.Sets.{dart_limit}
use Rattle.finite.specs.Loops.{all_filled}
use Rattle.maps.proofs.arrays.fixed_links.Goals as goal

pub returns : goal.returns
returns c =
    let made = c.from_fn.ensures.items in
    all_filled dart_limit (record { whole = made.long; so_far = λ j l. let r = made.at j 0 l in let e : get_or c.from_fn.result j 0 ≡ j = search rules in e }) (omega arith)
