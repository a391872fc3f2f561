mod Lemmas
pub mod Shown
pub mod Inputs
pub mod Images
pub mod CheckedFrames
pub mod EntryFrames
mod ListedRanges
pub mod CompiledEntries
pub mod FrameSizes
pub mod Compiled
mod EventLines
pub mod Headline
pub mod PrintedWalk
pub mod FunctionNames
pub mod Meanings
pub mod Completeness
pub mod TamePrograms
pub mod Calls
pub mod MeantCalls
pub mod OneVerdict
pub mod Existence
pub mod CompiledChecks
pub mod CompiledFrames
pub mod EntryCalls
pub mod OneTextOfEntries
pub mod OneStatus
pub mod Summaries
pub mod SelftestCalls
