-- What decides a claim, and the laws that the functions cite. Nothing is assumed.
--     Points       points offered one after another, by their coordinates
--     Rotations    a claim passes just where it is the listing, begun at any corner: `claim_decides`
--     Marks        what a mark means: `right_is_true`, `own_listing_right`
pub mod Points
pub mod Rotations
pub mod Marks
