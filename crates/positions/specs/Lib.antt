-- What the functions of this crate answer. Nothing is assumed.
--     Positions    positions at the front of a text
pub mod Positions
