pub mod CallLines
pub mod WrittenOut
