-- What the functions of this crate answer. Nothing is assumed.
--     Places      lines by their places in a text
--     Numbers     what a spelling stands for
--     Readers     what a reader gives, and where it comes
pub mod Places
pub mod Numbers
pub mod Readers
