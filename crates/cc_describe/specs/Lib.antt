pub mod Describing
pub mod FirstRefusal
pub mod Places
pub mod ProgressViews
