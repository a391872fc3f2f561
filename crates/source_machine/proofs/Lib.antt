mod Lemmas
pub mod HandlersBelow
pub mod FrameKeeping
pub mod StackKeeping
pub mod TaskKeeping
pub mod StepKeeping
pub mod StepDistance
pub mod StepEvents
pub mod WholeRuns
pub mod StepsLeft
pub mod RunPrefixes
pub mod Tameness
pub mod CalmRows
