-- What the functions of this crate answer and require. Nothing is assumed.
--     Areas    the area of a map that is known to be sound; a fan whose sum stays within the limit
pub mod Areas
