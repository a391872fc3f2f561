pub mod SameMemory
pub mod SameWalk
pub mod ListedRanges
pub mod ThreadWalked
