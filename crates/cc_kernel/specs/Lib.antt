pub mod Kernels
pub mod Parts
