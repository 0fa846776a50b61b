pub mod CauseTexts
pub mod ForeverTexts
pub mod GeneralTexts
pub mod ModelTexts
pub mod RunsTold
pub mod SilentVerdicts
pub mod SureTexts
