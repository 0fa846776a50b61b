pub mod Fronts
pub mod Laws
pub mod Reading
pub mod Steps
pub mod Views
