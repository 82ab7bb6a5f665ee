-- Outlines as text: what is written is read, and what is read is written. Nothing is assumed.
--     RoundTrip      whole texts
--     Few            in form just where it is written for corners of few digits
--     Held           corners that are kept in an array
pub mod RoundTrip
pub mod Few
pub mod Held
