-- The dispatcher: its record, its searches, walks and unwindings.
pub mod DispatchSpace
pub mod DispatchMemory
pub mod UnwindTurnsLeft
pub mod DispatchOutcomeSteps
pub mod DispatchWalks
pub mod UnwindLanding
pub mod UnwindTurn
pub mod SearchTurn
pub mod DispatchStart
pub mod DispatchReturn
pub mod DispatchReturnSteps
pub mod WalkTurn
pub mod DispatchStackTop
