pub mod Records
pub mod Text
pub mod Reading
pub mod Writing
pub mod NoPairs
pub mod ShortTexts
