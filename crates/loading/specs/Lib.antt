-- What the functions of this crate answer. Nothing is assumed.
--     Opening    the map of a file in form
pub mod Opening
