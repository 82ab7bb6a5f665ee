-- What the functions of this crate cite. Nothing is assumed.
--     Rules        the rules by a map's points are those of the map
--     Admitting    what is answered by the rules
--     Hashing      the hashes of points; a point whose hash is not set is none of them
pub mod Rules
pub mod Admitting
pub mod Hashing
