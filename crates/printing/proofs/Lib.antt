-- Writing texts, and the laws that the functions cite. Nothing is assumed.
--     Overwriting    writing at a place of a lent list, one thing after another
--     Decimals       numbers in decimal
--     Magnitudes     how a signed machine number is spelt
--     Values         values printed one after another
--     Printed        the printed lines of answers, and their lengths
--     RoundTrip      numbers are read as they are written, and written as they are read
--     Reports        the report by places of the text
pub mod Overwriting
pub mod Decimals
pub mod Magnitudes
pub mod Values
pub mod Printed
pub mod RoundTrip
pub mod Reports
