-- Vectored handlers as they are asked, answer, and are added and taken out.
pub mod HandlerAnswers
pub mod HandlerReturn
pub mod NameThunkRun
pub mod NameThunkShadow
pub mod HandlerStart
pub mod HandlerEntry
pub mod ListTurns
pub mod HandlerLists
pub mod StubRun
pub mod StubShadow
pub mod StubTurns
pub mod VectoredTurns
