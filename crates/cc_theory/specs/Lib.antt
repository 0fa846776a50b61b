pub mod Completion
pub mod Groups
pub mod Laws
pub mod Making
pub mod Theories
