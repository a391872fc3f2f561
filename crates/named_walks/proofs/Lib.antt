mod Lists
mod ExpressionWalks
mod StatementWalks
pub mod ProgramWalks
