pub mod Joining
pub mod Shares
pub mod WideGrounding
