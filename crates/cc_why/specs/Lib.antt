pub mod Causes
pub mod Laws
pub mod Meeting
pub mod Noting
