pub mod Steps
pub mod ValueSteps
pub mod ChangeSteps
