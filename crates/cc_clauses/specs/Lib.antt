pub mod Laws
pub mod Merging
pub mod Parts
pub mod RowsOf
pub mod Tells
