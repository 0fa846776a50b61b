pub mod Laws
pub mod Readings
pub mod Requests
pub mod Views
pub mod Words
