pub mod ReadAgain
pub mod Written
pub mod Words
