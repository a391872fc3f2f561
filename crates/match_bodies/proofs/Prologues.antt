-- Prologues and epilogues, run by the machine.
pub mod FrameCode
pub mod ProbedPlans
pub mod PrologueInstructions
pub mod PrologueSteps
pub mod StackCheck
pub mod ProbedAllocation
pub mod PlannedPrologues
pub mod FrameMaking
pub mod EpilogueSteps
