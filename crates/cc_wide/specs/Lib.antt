pub mod WideForms
pub mod WideGrounds
pub mod WideLaws
pub mod WideLists
pub mod WideRules
