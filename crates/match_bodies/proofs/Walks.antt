-- Walks over the stack while a body runs, and the shadow.
pub mod StackWalks
pub mod UnwindWalks
pub mod SilentTurns
pub mod RoutineWalks
pub mod ShadowTurns
pub mod OwedCallers
pub mod ReturnAddresses
pub mod BodyCallers
pub mod NameThunks
