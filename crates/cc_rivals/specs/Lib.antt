pub mod Making
pub mod Meets
pub mod Putting
pub mod Supports
pub mod Wides
