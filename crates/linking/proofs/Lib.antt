-- Laws of edge links that are cut. Nothing is assumed.
--     Cutting    links lead below a bound as before
pub mod Cutting
