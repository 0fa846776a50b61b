pub mod Horizons
pub mod Sections
pub mod Subjects
