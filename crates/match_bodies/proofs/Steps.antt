-- Steps of linear code within one body.
pub mod InstructionEffects
pub mod BodyFrames
pub mod BodyResumption
pub mod LoadSteps
pub mod BodyViews
pub mod NextInstruction
pub mod PlainSteps
pub mod ComputeStep
pub mod LandingStep
pub mod StepNeeds
pub mod BodySteps
