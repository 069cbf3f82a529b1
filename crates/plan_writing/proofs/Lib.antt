pub mod Numbers
pub mod Sections
pub mod Lettering
