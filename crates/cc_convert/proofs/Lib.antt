pub mod Accepted
pub mod Bounds
pub mod Inside
pub mod Joined
pub mod Reading
pub mod SectionLines
pub mod Spoken
