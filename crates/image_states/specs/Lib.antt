pub mod Plans
pub mod Compiled
pub mod StateLaws
pub mod StartLaws
pub mod Words
