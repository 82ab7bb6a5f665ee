-- Orbits, parts and walks, with the links as parameters, and the dart set. Nothing is assumed.
--     Reach      what is reached by links, as a relation and as a list
--     Classes    the numbers of orbits, of parts and of closed walks
--     Walks      a walk along two links in turn
--     Sets       a set of darts as sixteen words with its size
--     Links      links that lists hold; permutations and involutions of the darts
--     Queue      the darts of the queue by which darts are visited
--     Visits     what a visit adds to the queue
pub mod Reach
pub mod Classes
pub mod Walks
pub mod Sets
pub mod Links
pub mod Queue
pub mod Visits
