-- The laws of `specs/`.
pub mod Boundary
