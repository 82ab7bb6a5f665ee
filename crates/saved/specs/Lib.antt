-- What the functions of this crate answer. Nothing is assumed.
--     Fields    what is written of a map
pub mod Fields
