pub mod Locks
pub mod Single
