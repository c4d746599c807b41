pub mod Phases
pub mod Courses
pub mod Answers
pub mod Stands
pub mod Declines
pub mod Layouts
pub mod Routes
pub mod Asked
