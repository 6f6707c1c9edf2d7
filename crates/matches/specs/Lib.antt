-- The judging of a handed-in list, and the bench cases. Read in this order.
pub mod Judge
pub mod Shown
pub mod JudgeTheorems
pub mod Bench
pub mod Inside
