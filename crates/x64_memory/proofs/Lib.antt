mod Lemmas
pub mod Steps
pub mod RestsOfPages
pub mod Paging
pub mod Mapping
pub mod Ordered
