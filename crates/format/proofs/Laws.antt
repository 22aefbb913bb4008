-- The laws: of each definition by its name, and those behind each demand.

-- of proof by cases, and of one module of definitions each
pub mod Cases
pub mod Bytes
pub mod Integers
pub mod Uris
pub mod Wholes
pub mod Epochs
pub mod Shifts
pub mod Header
pub mod Register
pub mod Requests
pub mod Calls
pub mod Listing
pub mod Moves
-- behind demand 1, demand 2 and demand 3
pub mod Denials
pub mod Lists
pub mod Order
