-- What the lister's reading of its input promises. Read in this order.
pub mod Reading
pub mod Whole
