pub mod Meanings
pub mod Questions
pub mod Chains
pub mod KnownLaws
pub mod Ends
