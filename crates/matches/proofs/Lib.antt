-- What is proved of the definitions of this crate.
pub mod Onto
pub mod Shown
pub mod Judge
pub mod Inside
pub mod JudgeTheorems
pub mod Bench
pub mod Refused
pub mod Chains
pub mod Readings
