pub mod Calls
pub mod GivenSteps
pub mod LineSteps
pub mod LogsBegun
pub mod OwnNumbers
pub mod SummedTexts
