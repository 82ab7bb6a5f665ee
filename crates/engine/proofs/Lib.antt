-- What the proofs of the entry points cite. Nothing is assumed.
--     Rules      from what a check found to the rule of the call, and to what is required
--     Entries    from what an entry found to what it promises
pub mod Rules
pub mod Entries
