-- The theory of sound maps, and what the functions of this crate cite. Nothing is assumed.
--     Darts        own darts and helpers, present darts, the point link
--     Links        both links are involutions of the present darts; the counts balance
--     Tables       link arrays for `orbits`, made from a map
--     Circuits     lists of points round which edges lead
--     Outline      the outline is the one circuit that is a closed walk
--     Soundness    what makes a map sound, with an outline and without
--     Referenced   a sound map with another reference on its outline keeps what is asked of it
--     Equal        what `==` finds of points; a slice that is asked for a point
--     Same         two sound maps that agree at every place are equal
--     Points       a map with one point more: its points
--     Alone        a point that arrives alone: first, inside
--     Splice       a circuit after a splice, over any two maps that differ so
--     Edges        what `cut` and `join` change
--     Spliced      an outside arrival is a splice, and leaves a sound map
--     Pair         the second point
--     Empty        the empty map is the sound map without points
--     Orbits       orbits of a sound map: members, size; they part the present darts
--     Walks        walks in a sound map: home on the outline, else loose
pub mod Darts
pub mod Links
pub mod Tables
pub mod Circuits
pub mod Outline
pub mod Soundness
pub mod Referenced
pub mod Equal
pub mod Same
pub mod Points
pub mod Alone
pub mod Splice
pub mod Edges
pub mod Spliced
pub mod Pair
pub mod Empty
pub mod Orbits
pub mod Walks
