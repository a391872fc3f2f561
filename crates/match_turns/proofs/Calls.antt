-- Calls of functions, from the arguments to the return.
pub mod CallResult
pub mod CallReturn
pub mod ReturnAddressPlace
pub mod CallStackArguments
pub mod AtCall
pub mod CallWaitingCaller
pub mod CallArguments
pub mod CallEntry
pub mod CallSteps
pub mod ReturnAddressPush
pub mod CallRegions
pub mod CallActs
