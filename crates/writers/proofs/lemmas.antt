pub mod Deliveries
pub mod Flushes
pub mod Steps
pub mod When
