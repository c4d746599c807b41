pub mod Asked
pub mod Crossed
pub mod Listed
