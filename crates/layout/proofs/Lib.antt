-- Numbers, blocks and the form of a file, and the laws that the functions cite. Nothing is assumed.
--     Digits    numbers in bytes
--     Blocks    blocks of fields: written and read back, read and written back
--     Loops     the loops that read and write a number byte by byte
--     Form      files in form: what the test tells and wants, and the versions
--     Notes     what is noted of a point, in groups of bytes
pub mod Digits
pub mod Blocks
pub mod Loops
pub mod Form
pub mod Notes
