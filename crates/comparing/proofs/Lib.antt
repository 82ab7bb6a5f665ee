-- Laws of lists that are compared. Nothing is assumed.
--     Alike    a loop that compares two lists
pub mod Alike
