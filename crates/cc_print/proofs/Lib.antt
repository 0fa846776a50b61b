pub mod Described
pub mod Joins
pub mod KeyTexts
pub mod Named
pub mod RowParts
