-- Funclets as they begin and return.
pub mod FuncletPrologue
pub mod FuncletFrame
pub mod FuncletConfiguration
pub mod FuncletFirstTurns
pub mod FuncletShadow
pub mod FuncletSteps
pub mod FuncletFirstInstruction
pub mod FuncletReturn
pub mod FuncletReturnSteps
