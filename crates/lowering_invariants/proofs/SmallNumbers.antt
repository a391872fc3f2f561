-- Numbers in code that is lowered are small.
pub mod SmallLists
pub mod SmallStores
pub mod Small
