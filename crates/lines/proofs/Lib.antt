-- The printed lines of a report, and the laws that the functions cite. Nothing is assumed.
--     Packed         the answer of a number is the one that the number was made of
--     ReportLines    the printed lines from a position on
--     ReportLoops    the loops that add up their lengths and write them
pub mod Packed
pub mod ReportLines
pub mod ReportLoops
