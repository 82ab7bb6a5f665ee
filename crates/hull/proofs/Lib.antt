-- Offers, and what is proved about every list of them. Nothing is assumed.
--     Outcomes       a point is accepted or not, and by which condition; the four arrivals
--     Arrivals       an arrival leaves a shaped map
--     Building       points that are offered one after another build a shaped map
--     Sound          sound maps are those that points build: `sound_shaped`
--     Offers         an offer is accepted or refused, and keeps a map sound
--     Changes        what an offer changes, place by place
--     Cases          from the answer that the code makes to the definition, case by case
--     Theorems       what holds of offers and outlines, each under one name
--     History        demand 3: `always_balanced`
--     Built          points that all differ are not refused, and are the map's points
--     Runs           the rules and the map of model/Building are those of offers to the empty map
--     Admissions     from a sound map's coordinates to the offer of a point
--     Taking         a loop that offers points one after another
--     Removal        the last point taken back
--     Actions        demand 3 with removals: `balanced_with_removals`
pub mod Outcomes
pub mod Arrivals
pub mod Building
pub mod Sound
pub mod Offers
pub mod Changes
pub mod Cases
pub mod Theorems
pub mod History
pub mod Built
pub mod Runs
pub mod Admissions
pub mod Taking
pub mod Removal
pub mod Actions
