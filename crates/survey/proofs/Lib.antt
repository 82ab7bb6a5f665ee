-- Reading texts, and the laws that the functions cite. Nothing is assumed.
--     Digits         digits read one after another
--     Signs          a number is a sign and a magnitude
--     Separators     before and after the first of a byte
--     Fronts         the number at the front of a list
--     Texts          the lines of a text by their places
--     Readings       a line read within its text
pub mod Digits
pub mod Signs
pub mod Separators
pub mod Fronts
pub mod Texts
pub mod Readings
