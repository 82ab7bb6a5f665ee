-- What the functions of this crate answer. Nothing is assumed.
--     Positions    positions one after another
pub mod Positions
