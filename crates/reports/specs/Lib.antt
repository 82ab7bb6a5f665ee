-- What the functions of this crate require and answer. Nothing is assumed.
--     Summaries    what is decided beside the answers, and the report of both
--     Pieces       a report in pieces
--     Histories    a report and the history of its points
pub mod Summaries
pub mod Pieces
pub mod Histories
