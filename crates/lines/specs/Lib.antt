-- What the functions of this crate require and answer. Nothing is assumed.
--     Packing     the answer of a line as one number
--     Lines       the printed lines of a report, by their positions
--     Printing    writing printed lines
pub mod Packing
pub mod Lines
pub mod Printing
