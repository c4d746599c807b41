pub mod Compass
pub mod Grids
pub mod GridLaws
pub mod Made
pub mod Entries
