pub mod Schedule
pub mod Entry
pub mod Decision
pub mod Inner
