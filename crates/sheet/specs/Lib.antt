pub mod Columns
pub mod Lines
pub mod Sheets
pub mod Fills
pub mod Checks
pub mod Typed
pub mod Places
