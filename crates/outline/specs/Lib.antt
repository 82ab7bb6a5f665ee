-- What the functions of the program promise. Nothing is assumed.
--     Reading      what was read of standard input
--     Printing     how far printing came
pub mod Reading
pub mod Printing
