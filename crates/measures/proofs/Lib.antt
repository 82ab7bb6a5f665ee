-- The area of an outline, and the laws that the functions cite. Nothing is assumed.
--     Sums         a fan summed up triangle by triangle
--     Areas        the same from each corner, not negative, within its limit; 0 just for corners in line
--     Calls        what the function answers
--     Histories    the area is the history's total: `area_of_history`
pub mod Sums
pub mod Areas
pub mod Calls
pub mod Histories
