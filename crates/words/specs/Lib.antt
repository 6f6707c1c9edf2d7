-- Words, the signature, and what the calls that run starts answer. Read in this order.
pub mod Words
pub mod Sign
pub mod Theorems
pub mod Match
pub mod MatchTheorems
pub mod Own
pub mod Forest
pub mod FirstRow
pub mod Inside
