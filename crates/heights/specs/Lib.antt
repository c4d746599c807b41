pub mod LeastSums
pub mod Levels
