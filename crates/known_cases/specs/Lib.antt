pub mod KnownCases
