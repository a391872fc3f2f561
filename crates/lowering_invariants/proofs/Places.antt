-- Which places code that is lowered names.
pub mod DepthExpressions
pub mod DepthStatements
pub mod DepthPlaces
pub mod BlindExpressions
pub mod Blind
pub mod NamedLocals
