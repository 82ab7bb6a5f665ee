-- What the functions of this crate require and answer. Nothing is assumed.
--     Requires     what is required of a map and a point
--     Sight        a corner that is sought; what is seen of an outline
pub mod Requires
pub mod Sight
