-- Laws of the definitions. Nothing is assumed.
--     Shape      laws of shaped maps
--     Answers    the first rule that applies decides; what an answer means
--     Lent       what is promised of a lent list
--     Sound      a map is sound just where its points build it: `sound_is`, `sound_by`
pub mod Shape
pub mod Answers
pub mod Lent
pub mod Sound
