-- What the lister prints. Read in this order.
pub mod Listing
pub mod Answer
pub mod Inside
