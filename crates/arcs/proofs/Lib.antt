pub mod Fronts
pub mod Groups
mod Sorting
pub mod Listed
