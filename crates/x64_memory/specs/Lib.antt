pub mod Stretches
pub mod Pages
pub mod Regions
pub mod PageMaps
pub mod Words
