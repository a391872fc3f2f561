-- Regions of `__try`, and what lies in them.
pub mod ReturnRegions
pub mod NoBlocks
pub mod CallRegions
pub mod RegionRanges
