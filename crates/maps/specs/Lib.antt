-- What the functions of this crate answer. Nothing is assumed.
--     Places    points by their places: in range, new among others, beside an edge
pub mod Places
