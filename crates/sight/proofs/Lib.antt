-- What is seen of an outline from a point. Nothing is assumed.
--     Beyond     a point in line beyond one of two corners, and any other that sees an edge
--     Indices    what the code takes for an index lies within its array
--     Seeing     the way round an outline on which a point looks for the corners where what it sees turns
pub mod Beyond
pub mod Indices
pub mod Seeing
