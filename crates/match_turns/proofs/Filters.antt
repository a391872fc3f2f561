-- Filters as they are asked and answer.
pub mod FilterEntry
pub mod AskTurn
pub mod AskSteps
pub mod FilterRecord
pub mod FilterInformationStep
pub mod FilterAnswer
