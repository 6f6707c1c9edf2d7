-- The laws of `specs/`, a file for each of its files, for this crate's proofs and those of the crates that link it.
pub mod Opened
pub mod Least
pub mod Map
pub mod Accepted
pub mod Matching
pub mod Theorems
pub mod Given
pub mod Verdict
pub mod Rules
pub mod Lines
pub mod Base
pub mod Answer
