pub mod Judging
pub mod Gathering
pub mod Entry
pub mod Streaming
pub mod Within
