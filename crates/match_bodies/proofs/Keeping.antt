-- What each turn leaves as it is.
pub mod CallKeeping
pub mod EntryKeeping
pub mod ReturnKeeping
pub mod FlowKeeping
pub mod ActivationKeeping
pub mod ProgramKeeping
pub mod MemoryKeeping
pub mod ChainKeeping
pub mod TemplateKeeping
