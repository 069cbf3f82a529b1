pub mod Judging
pub mod Keeping
pub mod Searching
pub mod Loading
pub mod Scanning
pub mod Turning
pub mod Calendars
