-- `polygons::read_between` meets its contract: what stands after the opening is read.
use Rattle.positions.proofs.WordLaws.{word_inside}
use Rattle.polygons.proofs.Held.{between_read}
use Rattle.polygons.proofs.read_between.Goals as goal

pub slice_bounds-read_positions-count : goal.slice_bounds-read_positions-count
slice_bounds-read_positions-count c = word_inside c.args.opening.now c.args.text.now c.requires

pub slice_bounds-read_positions-start : goal.slice_bounds-read_positions-start
slice_bounds-read_positions-start c = word_inside c.args.opening.now c.args.text.now c.requires

pub returns : goal.returns
returns c = between_read _ _ _ c.read_positions.ensures
