-- Bodies that wait while others run, and that go on.
pub mod BodyReturn
pub mod BodyOtherMemory
pub mod BodyWithin
pub mod WaitingBodies
pub mod BodySavedState
pub mod BodyContinuation
