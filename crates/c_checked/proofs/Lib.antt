pub mod ExpressionTrees
pub mod StatementTrees
pub mod Items
pub mod ScopeTests
