-- What contracts of private functions cite and no public one does; 01 has no such terms.
pub mod Sections
