-- The laws behind the functions of the program. Nothing is assumed.
--     Reading      the loop that reads
--     Printing     the loop that prints pieces
pub mod Reading
pub mod Printing
