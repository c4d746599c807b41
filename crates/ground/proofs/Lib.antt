pub mod ArcsAt
pub mod EndLaws
pub mod Offered
pub mod Walks
