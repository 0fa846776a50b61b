pub mod GroundViews
pub mod Laws
pub mod Meanings
pub mod Walks
