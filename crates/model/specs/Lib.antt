-- What a reader must believe: the definitions of document 01 and of the requests after it,
-- one topic a file, each under the sentence that it renders. Nothing is assumed.
--     Spelling     words and whole numbers in bytes
--     Refusals     the numbers, and the first rule that applies
--     Answers      number, word and values of each answer; calls, and what entries promise
--     Plane        coordinates, orientation and its three cases
--     Maps         darts, points, links, the empty map
--     Outline      the outline, what is visible of it, the corners in listing order
--     Shape        what is true of a map that offers build
--     Arrival      a point offered to a sound map, and the map after it
--     Building     a list of points offered one after another
--     Sound        a sound map: the one that its points build
--     Reading      orbits, counts, walks, the walker
--     Offers       a point offered to any map
--     Removal      the last point taken back
--     Changes      what an offer changes, place by place
--     History      a list of offers, and one with removals among them; demand 3 as one record
--     Placing      where a query point lies
--     Lent         results written into a lent list
--     Saved        the file
--     Text         numbers and lines of a survey text, and a line lent by itself
--     Report       the report on a survey text
--     Outlines     an outline as text: written, read, and which corners some survey lists
--     Area         twice the area of an outline: from a corner, and by the history
--     Marking      a claimed outline, right or wrong
--     Orders       the order in which each call looks at its rules
--     Questions    the starred questions, one list with one check
--     FurtherQuestions    questions of ours, one list with one check
--     OutlineQuestions    questions of ours about outlines as text, one list with one check
--     AreaQuestions       questions of ours about the area, one list with one check
--     MarkQuestions       questions of ours about marking, one list with one check
--     RemovalQuestions    questions of ours about taking back a point, one list with one check
pub mod Spelling
pub mod Refusals
pub mod Answers
pub mod Plane
pub mod Maps
pub mod Outline
pub mod Shape
pub mod Arrival
pub mod Building
pub mod Sound
pub mod Reading
pub mod Offers
pub mod Removal
pub mod Changes
pub mod History
pub mod Placing
pub mod Lent
pub mod Saved
pub mod Text
pub mod Report
pub mod Outlines
pub mod Area
pub mod Marking
pub mod Orders
pub mod Questions
pub mod FurtherQuestions
pub mod OutlineQuestions
pub mod AreaQuestions
pub mod MarkQuestions
pub mod RemovalQuestions
