-- Laws of ℤ that stand on those of specs/. Nothing is assumed.
--     Solver    every polynomial identity, by one computation: identity n (λ x y .. . e ≐ f) tt
--     Range     what signed machine arithmetic in range asks, and what it gives: fits, back, read
pub mod Solver
pub mod Range
