-- What only contracts of private functions and those between the crates cite; no reader of 01 needs it.
pub mod Ready
pub mod Kept
pub mod Finding
