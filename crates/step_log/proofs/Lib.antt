pub mod Passing
pub mod Appending
pub mod Copying
pub mod Checking
pub mod Filtering
pub mod Claiming
