mod Lemmas
pub mod Calls
pub mod Functions
pub mod VectoredHandlers
pub mod Funclets
pub mod Dispatches
pub mod Filters
pub mod FinallyBlocks
pub mod Bodies
pub mod HostTurns
pub mod Services
pub mod RecordFields
pub mod ArenaRights
pub mod Raises
pub mod Operations
