-- Calls of the services of the host.
pub mod HostRequest
pub mod BuiltInCall
pub mod BuiltInThunks
pub mod BuiltInRun
pub mod BuiltInShadow
pub mod HostPage
pub mod ServiceShadow
pub mod ServiceCall
pub mod ServiceReturn
pub mod ServiceTurns
pub mod ServiceSteps
pub mod BuiltInRequest
