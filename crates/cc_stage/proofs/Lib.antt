pub mod Marked
pub mod Sorting
