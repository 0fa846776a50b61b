pub mod Induction
pub mod Laws
pub mod Steps
