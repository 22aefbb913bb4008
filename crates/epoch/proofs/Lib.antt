-- the laws of doubles of whole numbers
pub mod DoubleLaws
pub mod DoubleBits
-- what the doubles of a shift are
pub mod Exact
-- the laws of the code's loops and tests
pub mod Texts
pub mod Loops
pub mod Bounds
pub mod Ways
