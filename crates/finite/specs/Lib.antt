-- Bounded tests, lists, cycles and loops. Nothing is assumed, and no map is known. Lists has the
-- definitions alone, and the three pages after it the laws of what is defined there.
--     Tests        laws of Bool: `&&`, `||`, `⇒`, and from a test to its statement
--     Bounded      `all`, `any`, `sum`, `count`, `table` below a bound, with the law of each
--     Counting     counts compared: injections, the pigeonhole, the least number that passes
--     Lists        `elem`, `all_in`, `count_in`, `first_in`, `ring`, `distinct`: the definitions
--     ListLaws     members of a list, tests that pass at all of them, and what is put together
--     Distinct     lists in which no member stands twice; how many members there are
--     FirstPassing the first member that passes a test
--     Overwriting  `over`: a result over the front of a list that keeps its tail; a copying loop
--     Cycles       a relation along a list and round it; cutting, joining, rotating
--     CycleLaws    what holds along a chain and round a cycle; the ring that a cycle is
--     Rings        a ring from its first member on; the member after a place of a cycle
--     Reversal     chains and cycles read backwards
--     Loops        invariants of loops that test, search or fill an array
pub mod Tests
pub mod Bounded
pub mod Counting
pub mod Lists
pub mod ListLaws
pub mod Distinct
pub mod FirstPassing
pub mod Overwriting
pub mod Cycles
pub mod CycleLaws
pub mod Rings
pub mod Reversal
pub mod Loops
