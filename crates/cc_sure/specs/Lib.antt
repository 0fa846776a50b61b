pub mod Accepted
pub mod Outcomes
pub mod SureEvents
pub mod SureRuns
pub mod SureSteps
pub mod SureTold
pub mod Sures
