pub mod ForeverLogs
pub mod ForeverParts
pub mod GeneralLogs
pub mod RivalParts
pub mod Sought
pub mod SureLogs
pub mod SureParts
