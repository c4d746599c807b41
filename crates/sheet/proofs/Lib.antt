pub mod Checking
pub mod Extents
pub mod Filling
pub mod Whole
pub mod Law
