pub mod Bindings
pub mod Choices
pub mod Counting
pub mod Laws
pub mod Outermost
pub mod Pieces
pub mod Views
