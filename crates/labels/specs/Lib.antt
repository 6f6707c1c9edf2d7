-- The labelling, and the plain check of a dart table. Read in this order.
pub mod Queue
pub mod Judging
pub mod Theorems
pub mod Inside
