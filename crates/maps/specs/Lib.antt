-- What a map is, which maps are accepted, and what a matching is; the judging of a dart table. Read in this order.
pub mod Least
pub mod Map
pub mod Accepted
pub mod Matching
pub mod Theorems
pub mod Given
pub mod Verdict
pub mod Lines
pub mod Rules
pub mod Base
pub mod Shown
pub mod Answer
pub mod Inside
