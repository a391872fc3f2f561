-- Templates of instructions, run by the machine.
pub mod TemplateSizes
pub mod TemplatePieces
pub mod TemplateChanges
pub mod TemplateSlots
pub mod TemplateShadows
pub mod TemplateRuns
