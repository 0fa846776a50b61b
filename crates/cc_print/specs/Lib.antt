pub mod Atoms
pub mod Histories
pub mod Keys
pub mod Laws
pub mod Models
pub mod Refusals
pub mod Summaries
pub mod Verdicts
