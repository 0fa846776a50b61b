pub mod Ascii
pub mod Cuts
pub mod Ends
pub mod Gaps
pub mod MarkFronts
pub mod Statements
pub mod Stepping
pub mod Words
