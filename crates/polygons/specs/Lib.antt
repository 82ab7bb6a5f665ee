-- What the functions of this crate answer. Nothing is assumed.
--     Spellings    the corners that a text spells
pub mod Spellings
