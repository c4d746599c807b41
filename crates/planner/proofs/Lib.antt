pub mod Keeping
pub mod Carrying
