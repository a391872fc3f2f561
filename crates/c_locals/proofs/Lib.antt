mod Lemmas
pub mod ForInitialisers
pub mod DeclarationLocals
pub mod FilterKinds
pub mod ValueRules
pub mod WalkResults
pub mod Bytes
pub mod GlobalPlaces
