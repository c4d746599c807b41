pub mod Amounts
pub mod Faults
pub mod Refusals
pub mod Slacks
pub mod Words
