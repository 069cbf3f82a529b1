pub mod Words
pub mod Fields
pub mod Numbers
pub mod Lines
pub mod Reading
pub mod Putting
