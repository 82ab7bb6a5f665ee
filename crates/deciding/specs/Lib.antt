-- What the functions of this crate require and answer. Nothing is assumed.
--     Deciding     how far the lines of a text are decided
pub mod Deciding
