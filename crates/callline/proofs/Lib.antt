pub mod Reading
pub mod Law
