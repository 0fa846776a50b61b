pub mod Examples
pub mod NumberExamples
pub mod SearchExamples
