-- What only contracts between the crates cite; no reader of 01 needs it.
pub mod From
