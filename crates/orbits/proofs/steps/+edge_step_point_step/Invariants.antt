-- The edge step and the point step call each other. The measure of each is the number of moves left.
use Rattle.orbits.proofs.steps.+edge_step_point_step.Given as goal

abbrev pub decreases-edge_step : goal.decreases-edge_step
decreases-edge_step l = l.left

abbrev pub decreases-point_step : goal.decreases-point_step
decreases-point_step l = l.left
