pub mod Accepted
pub mod GeneralEvents
pub mod GeneralRuns
pub mod GeneralSteps
pub mod GeneralTold
pub mod Generals
pub mod Walks
