mod Lemmas
pub mod Refusing
pub mod Lists
pub mod Constants
pub mod Placing
pub mod Lengths
pub mod Declarators
pub mod Declarations
pub mod Parameters
pub mod Bodies
pub mod HeadsOfDeclarations
pub mod ExternalDeclarations
pub mod Beyond
pub mod ProgramOrFault
pub mod Programs
