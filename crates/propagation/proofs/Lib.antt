pub mod Fits
pub mod Answering
pub mod Keeping
pub mod Replaying
pub mod Filtering
