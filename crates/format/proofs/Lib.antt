-- All laws, and of what specs/ states the proofs: the demands, what 02's further calls promise, and the marked cases.
pub mod Laws
pub mod Demand1
pub mod Demand2
pub mod Demand3
pub mod EpochShift
pub mod SlowReading
pub mod MarkedCases
