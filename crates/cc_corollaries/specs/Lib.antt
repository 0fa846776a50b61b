pub mod AcceptedLogs
pub mod Cnfs
pub mod Corollaries
pub mod Models
pub mod Ran
pub mod Values
