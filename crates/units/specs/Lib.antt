pub mod Choice
pub mod Sums
pub mod Lists
pub mod Extremes
pub mod Limits
pub mod Cells
pub mod Inner
