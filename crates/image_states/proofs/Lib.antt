mod Lemmas
pub mod Places
pub mod Shifts
mod ColdLabels
pub mod Addresses
mod LabelOrder
mod ColdNames
pub mod CalledServices
pub mod FunctionNames
mod LeafCode
pub mod Slots
pub mod Entering
pub mod Framed
pub mod EntryWalks
pub mod EpilogueModes
pub mod PlanWalks
pub mod Callers
pub mod Found
pub mod Inserting
pub mod Funclets
pub mod Giving
pub mod Resuming
mod SparedLocals
pub mod Images
pub mod Leaves
pub mod Sections
pub mod Data
pub mod CodePlaced
pub mod StubsPlaced
pub mod Starting
