pub mod Sums
pub mod Labels
pub mod Workings
pub mod Surveys
pub mod Answers
pub mod Underway
