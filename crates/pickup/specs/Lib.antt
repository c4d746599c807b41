pub mod Layers
pub mod LayerLaws
pub mod Parts
pub mod Crossing
