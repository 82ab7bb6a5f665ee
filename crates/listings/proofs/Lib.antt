-- The texts that some survey would write. Nothing is assumed.
--     Turning     points that turn left, and all of them beside each edge
--     Listed      corners that some survey lists, as the code reads, tests and writes them
--     Accepted    a text is accepted just where some survey would write it
pub mod Turning
pub mod Listed
pub mod Accepted
