pub mod Lists
pub mod DeclaredCodes
pub mod StatementCodes
pub mod Lowering
pub mod FunctionCodes
pub mod StatementParts
mod StatementTrees
pub mod Pieces
pub mod EveryStatement
pub mod AnyStatement
pub mod EveryInstruction
pub mod EveryFunclet
pub mod FuncletCounts
