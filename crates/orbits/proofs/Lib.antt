-- The theory of orbits, and the laws that the functions of this crate cite. Nothing is assumed.
--     Reach             the list of what is reached is right: `reaches_iff`
--     Permutations      transpositions; iterates; every dart comes back; orbits are symmetric
--     Classes           classes by least members: `classes_represented`, `join_lowers_classes`
--     Transpositions    a transposition joins two orbits, or cuts one
--     Building          every permutation is built by transpositions
--     Genus             the genus of two permutations (for free maps: request #113)
--     Balance           any two involutions balance: V + E + F = D + 2 × parts
--     Walks             how a walk ends, and after how many moves
--     Moves             the moves of a walk; a walk round a ring comes home
--     Rings             the orbit of a dart as a list without repetition
--     ClosedWalks       when just one closed walk exists
--     Links             reading links from lists; compositions
--     Sets              bits, words and membership
--     Queue             visiting: what one step adds to the queue
--     Parts             the part that was visited, as a set
--     Counts            the parts counted, each from its least dart
pub mod Reach
pub mod Permutations
pub mod Classes
pub mod Transpositions
pub mod Building
pub mod Genus
pub mod Balance
pub mod Walks
pub mod Moves
pub mod Rings
pub mod ClosedWalks
pub mod Links
pub mod Sets
pub mod Queue
pub mod Parts
pub mod Counts
