pub mod Cnfs
pub mod CnfTexts
pub mod Laws
pub mod Reading
