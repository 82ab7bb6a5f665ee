-- Corners and query points, and the laws that the functions cite. Nothing is assumed.
--     Corners        the listing is the rotated outline; the lowest corner is the only one
--     CornerLoops    the loops that look for and list the corners
--     Views          placing by one look at each edge
--     Placing        what each answer on a query point means
--     Listings       which lists of points are the listing of some survey: `listed_iff`
pub mod Corners
pub mod CornerLoops
pub mod Views
pub mod Placing
pub mod Listings
