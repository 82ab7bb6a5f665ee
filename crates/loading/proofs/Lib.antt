-- Laws of the files of sound maps. Nothing is assumed.
--     Opening    the answer on the map of a file
--     Saving     saving and loading, version by version: `files_of_version`
pub mod Opening
pub mod Saving
