-- What only contracts between the crates cite; 01 has no such terms.
pub mod Lines
