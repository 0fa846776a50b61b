pub mod Ascending
pub mod Constants
pub mod Numbers
pub mod Places
pub mod Positions
