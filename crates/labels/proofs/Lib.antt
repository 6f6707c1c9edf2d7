-- The laws of `specs/`, for this crate's proofs and those of the crates that link it.
pub mod Opened
pub mod Pigeonhole
pub mod Queue
pub mod Reached
pub mod Inside
pub mod Carried
pub mod Judging
pub mod Theorems
