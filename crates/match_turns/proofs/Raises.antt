-- Exceptions that are raised, by faults and by calls.
pub mod RaiseCall
pub mod RaiseContinuation
pub mod FaultRaise
pub mod FaultContinuation
