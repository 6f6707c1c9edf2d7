-- What the calls of the C boundary promise.
pub mod Boundary
pub mod Numbers
