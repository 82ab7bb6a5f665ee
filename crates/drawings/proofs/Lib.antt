-- The text of an outline, and the laws that the functions cite. Nothing is assumed.
--     Parts       a text that is written in two parts
--     Joined      positions one after another, their lengths, and the loop that writes them
--     Outlines    the text of an outline by the number of its corners, and of a map's
pub mod Parts
pub mod Joined
pub mod Outlines
