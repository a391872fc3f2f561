-- Labels that unwindings go to.
pub mod UnwindLabels
pub mod UnwindTargets
