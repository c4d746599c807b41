pub mod Heights
pub mod RoadLaws
pub mod Loads
pub mod Tables
