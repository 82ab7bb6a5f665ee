-- What the functions of this crate require and answer. Nothing is assumed.
--     Admission    why a sound map refuses a point, by its coordinates
--     Hashes       the hash of a point, by which it is told from most others at once
pub mod Admission
pub mod Hashes
