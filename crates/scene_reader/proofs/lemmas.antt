pub mod Passes
pub mod Tellings
pub mod Usual
