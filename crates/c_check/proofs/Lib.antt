mod Lemmas
pub mod Swapped
pub mod ParametersInOrder
pub mod FunctionsInOrder
pub mod FileInOrder
pub mod PlaceOfMain
pub mod Programs
