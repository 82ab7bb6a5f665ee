-- What is said of lists that are compared. Nothing is assumed.
--     Same    what `same` promises at each kind of list that a map has
pub mod Same
