-- The plane: identities first, then convex outlines. Nothing is assumed. Each uses those above it.
--     Orientation    identities of the orientation, and what its tests say of its sign
--     Bounds         points in range: coordinates, products of differences and orientation are bounded
--     Minors         the determinant along its last column: it is the orientation, and every step fits 64 bits
--     Fan            the sum of orientations round points is the same from every base and every first point
--     Knuth          Knuth's five axioms
--     Betweenness    points in line: the dot product, which of three lies between, and beside an edge
--     Convex         a convex outline, whose corners lie strictly left; not all of its edges are visible
--     Extents        what a convex outline encloses: its fan is not negative, and at most 8 times the limit's square
--     Beyond         two corners, and a point in line beyond one of them: all edges are visible
--     Tangents       the tangents at a left and at a right corner, over points
--     Corners        the left and the right corner: there is one of each
--     Split          the outline split at the two corners: hidden edges, then visible ones
--     Hull           an outline edge is a supporting edge, and the other way round
--     Aligned        a point in line with an edge of an outline
--     Heights        the order by the smallest y, then the smallest x
pub mod Orientation
pub mod Bounds
pub mod Minors
pub mod Fan
pub mod Knuth
pub mod Betweenness
pub mod Convex
pub mod Extents
pub mod Beyond
pub mod Tangents
pub mod Corners
pub mod Split
pub mod Hull
pub mod Aligned
pub mod Heights
