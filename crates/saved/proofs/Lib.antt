-- The saved form both ways, and the laws that the functions cite. Nothing is assumed.
--     Tables    tables of one rule before a number and another from it on
--     Places    what is read in the file of a map
--     Files     a map's file is in form and reads back; a file in form is the file of its map
pub mod Tables
pub mod Places
pub mod Files
