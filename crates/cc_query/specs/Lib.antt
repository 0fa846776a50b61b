pub mod Accepted
pub mod Events
pub mod Laws
pub mod Lefts
pub mod Parts
pub mod Sessions
