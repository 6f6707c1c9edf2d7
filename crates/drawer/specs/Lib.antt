-- Records, drawers, and the calls on them. Read in this order.
pub mod Record
pub mod Drawer
pub mod Shown
pub mod Answers
pub mod Lines
pub mod Plain
pub mod Theorems
pub mod Inside
