-- Laws of sound maps. Nothing is assumed.
--     Agreeing      what `==` finds of points and of notes
--     Rebuilding    a loop that offers points anew
pub mod Agreeing
pub mod Rebuilding
