pub mod Copied
pub mod Joined
pub mod Shared
pub mod WideCounts
pub mod WideFits
pub mod Zipped
