-- What only contracts of private functions cite.
pub mod Size
pub mod Parts
