-- What the functions of this crate answer. Nothing is assumed.
--     Checking      a map that is checked
--     Rebuilding    points offered anew
pub mod Checking
pub mod Rebuilding
