-- The report on a survey text. Nothing is assumed.
--     Wholes         what is decided is the report, and pieces put together are the report
--     Lengths        how long a report is at most: `report_most`
--     Histories      a report is that of a list of offers: `reports_history`
pub mod Wholes
pub mod Lengths
pub mod Histories
