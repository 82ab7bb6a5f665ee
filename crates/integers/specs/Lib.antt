-- Laws of ℤ that the kit lacks. Nothing is assumed; each file opens with what it holds and ends
-- with its laws in use. Each uses those above it. This is a library: a family of laws stands here whole,
-- also where the crates above cite only some of it.
--     Ring      associativity, distributivity, negation through products, cancelling
--     Solver    what the solver of polynomial identities computes; proofs/Solver has `identity`
--     Order     comparisons and tests as `omega` reads them, omega (arith, order); cases by sign
--     Sign      the signs of products, and of a factor from the product's
--     Range     signed machine arithmetic in range is arithmetic over ℤ; omega (arith, machine)
--               and goes on in proofs/Range
pub mod Ring
pub mod Solver
pub mod Order
pub mod Sign
pub mod Range
