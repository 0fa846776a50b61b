pub mod Calls
pub mod Contents
pub mod Moments
pub mod Memory
pub mod MemoryFields
pub mod Sheet
pub mod Still
