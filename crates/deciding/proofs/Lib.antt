-- The lines of a text, decided one after another. Nothing is assumed.
--     Verdicts       what becomes of a line is what the definitions offer
--     Decisions      one line after another, decided and ahead make up the report
pub mod Verdicts
pub mod Decisions
