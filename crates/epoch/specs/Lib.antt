-- the doubles of whole numbers
pub mod Doubles
-- what the code answers
pub mod Answers
