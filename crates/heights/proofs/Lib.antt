mod Searching
mod Summing
pub mod Levelling
