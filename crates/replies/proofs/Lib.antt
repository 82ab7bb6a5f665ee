-- What the proofs of the exported functions cite. Nothing is assumed.
--     Told           answers told by numbers, and that nothing is lost
--     Serving        rules in two parts; lists with room and without; rules that are checked before
--     OpenedFiles    the map of a file after its checks
--     Reported       a result and its length, in two lists
--     Chains         demand 3 at the boundary: `calls_run`
--     Actions        .. with removals: `acted_run`
pub mod Told
pub mod Serving
pub mod OpenedFiles
pub mod Reported
pub mod Chains
pub mod Actions
