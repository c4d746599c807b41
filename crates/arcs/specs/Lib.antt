pub mod Tables
pub mod Index
pub mod Nets
pub mod Lists
