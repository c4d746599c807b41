pub mod Chaining
mod Relaxing
mod Spreading
mod Measuring
pub mod Judging
mod Answering
