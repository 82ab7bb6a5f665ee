-- `plane::determinant` meets its contract: two products and a minor in each of its three lines, the first two
-- minors and all three fit, and the sum is the orientation.
use Rattle.model.specs.Plane.{coordinate_limit as L}
use Rattle.plane.proofs.Minors.{product_fits, minor_fits, minor_bounded, partial_fits, partial_bounded, sum_fits, sum_is}
use Rattle.plane.proofs.determinant.Goals as goal

pub returns : goal.returns
returns c =
    sum_is L tt c.requires.ax_near c.requires.ay_near c.requires.bx_near c.requires.by_near
    c.requires.cx_near c.requires.cy_near

pub overflow_mul-without_a : goal.overflow_mul-without_a
overflow_mul-without_a c = search (product_fits L tt)

pub overflow_mul-without_a-2 : goal.overflow_mul-without_a-2
overflow_mul-without_a-2 c = search (product_fits L tt)

pub overflow_sub-without_a : goal.overflow_sub-without_a
overflow_sub-without_a c = search (minor_fits L tt)

pub overflow_mul-without_b : goal.overflow_mul-without_b
overflow_mul-without_b c = search (product_fits L tt)

pub overflow_mul-without_b-2 : goal.overflow_mul-without_b-2
overflow_mul-without_b-2 c = search (product_fits L tt)

pub overflow_sub-without_b : goal.overflow_sub-without_b
overflow_sub-without_b c = search (minor_fits L tt)

pub overflow_mul-without_c : goal.overflow_mul-without_c
overflow_mul-without_c c = search (product_fits L tt)

pub overflow_mul-without_c-2 : goal.overflow_mul-without_c-2
overflow_mul-without_c-2 c = search (product_fits L tt)

pub overflow_sub-without_c : goal.overflow_sub-without_c
overflow_sub-without_c c = search (minor_fits L tt)

pub overflow_sub-result : goal.overflow_sub-result
overflow_sub-result c = search (partial_fits L tt, minor_bounded L tt)

pub overflow_add-result : goal.overflow_add-result
overflow_add-result c = search (sum_fits L tt, partial_bounded L tt, minor_bounded L tt)
