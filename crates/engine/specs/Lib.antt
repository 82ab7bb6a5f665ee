-- What the checks of this crate promise. Nothing is assumed.
--     Checks    a map of which a dart is checked
pub mod Checks
