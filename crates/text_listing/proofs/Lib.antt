pub mod Room
pub mod Programs
pub mod Printed
