-- Functions as they begin and return.
pub mod FunctionReturn
pub mod FunctionFrame
pub mod FunctionLocals
pub mod FunctionPrologue
pub mod FunctionParameters
pub mod FunctionEntryCode
pub mod FunctionEntry
pub mod GivenFunction
pub mod GivenFrames
pub mod GivenStart
