pub mod Chains
pub mod Entries
pub mod Firsts
pub mod Kernels
pub mod Views
