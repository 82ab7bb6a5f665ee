-- What the functions of this crate answer. Nothing is assumed.
--     Listing    a list of corners
--     Viewing    how a query point lies to an edge, and what is found in turn
pub mod Listing
pub mod Viewing
