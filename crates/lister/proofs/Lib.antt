-- What is proved of the definitions of this crate, and the laws behind its code.
pub mod Example
pub mod Printing
pub mod Listed
pub mod Shown
