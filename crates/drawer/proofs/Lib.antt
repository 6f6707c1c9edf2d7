-- The laws of `specs/`, for this crate's proofs and those of the crates that link it.
pub mod Opened
pub mod Run
pub mod Refused
pub mod Record
pub mod Readings
pub mod Lines
pub mod Drawer
pub mod Filings
pub mod Plain
pub mod Theorems
pub mod Inside
pub mod Checking
pub mod Writing
pub mod Shown
pub mod Calls
pub mod Answers
