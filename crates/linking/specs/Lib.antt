-- What the functions of this crate ask. Nothing is assumed.
--     Requires    edge links that can be cut and spliced
pub mod Requires
