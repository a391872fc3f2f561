-- Cold parts of functions.
pub mod ColdRanges
pub mod ColdCalls
pub mod ColdInstructions
pub mod ColdBranches
pub mod ColdUnwinds
pub mod ColdParts
