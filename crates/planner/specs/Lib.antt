pub mod PastPromise
pub mod Leads
pub mod Carried
