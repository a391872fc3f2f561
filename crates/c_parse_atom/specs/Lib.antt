pub mod Laws
pub mod Information
