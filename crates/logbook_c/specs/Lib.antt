pub mod Answers
pub mod Items
pub mod Shifts
pub mod Moves
