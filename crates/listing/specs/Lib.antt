pub mod Listing
pub mod Endings
