pub mod Feasibility
pub mod Entry
pub mod Readiness
pub mod Decision
