-- What a run has on its stack.
pub mod Turns
pub mod StackTargets
pub mod StackTurns
pub mod TurnStack
pub mod ActivationOwners
pub mod TurnActivations
pub mod TurnNumbers
pub mod TurnDepths
