-- `__finally` blocks as they are called and return, and local unwinds.
pub mod FinallyFlag
pub mod FinallyActivation
pub mod FinallyEntry
pub mod FinallyUnwindEntry
pub mod FinallyCallReturn
pub mod LocalUnwindLanding
pub mod FinallyCall
pub mod FinallyCallSteps
pub mod LocalUnwindCall
