-- What the functions of this crate answer. Nothing is assumed.
--     Writing     what is written at a place of a lent list
--     Printing    the printed lines of a report
pub mod Writing
pub mod Printing
