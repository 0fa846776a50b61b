pub mod Entries
pub mod Fronts
pub mod Laws
pub mod Versions
