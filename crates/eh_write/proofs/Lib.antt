pub mod CodesAgain
pub mod InfosAgain
pub mod TablesAgain
pub mod WholeAgain
