-- What the functions of this crate answer. Nothing is assumed.
--     Listings    corners that some survey lists, in an array
pub mod Listings
