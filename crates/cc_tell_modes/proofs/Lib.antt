mod Printing
pub mod CauseLines
pub mod RunsTelling
pub mod SureLines
