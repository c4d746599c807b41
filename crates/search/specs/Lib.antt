pub mod Tables
pub mod Queued
pub mod Steps
pub mod Turning
pub mod Same
