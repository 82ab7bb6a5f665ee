-- Words and positions in a text. Nothing is assumed.
--     WordLaws       a word at the front of a text
--     PositionLaws   one position, and positions one after another
--     Steps          one position as the code reads it
--     Loop           the loop that reads positions
pub mod WordLaws
pub mod PositionLaws
pub mod Steps
pub mod Loop
