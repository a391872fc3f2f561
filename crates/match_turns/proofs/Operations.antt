-- Operations that compute, and those that fault.
pub mod OperationMeaning
pub mod OperationCode
pub mod OperationInProgress
pub mod OperationOperands
pub mod OperationCompletion
pub mod OperationSteps
