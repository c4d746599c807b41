pub mod Beside
pub mod Entering
pub mod Inner
pub mod Leaving
