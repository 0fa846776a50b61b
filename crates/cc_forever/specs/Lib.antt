pub mod Accepted
pub mod ForeverRuns
pub mod ForeverTold
pub mod Forevers
