pub mod Configs
pub mod Lines
pub mod Parts
