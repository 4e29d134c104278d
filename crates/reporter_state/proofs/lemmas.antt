pub mod FinalOrders
pub mod Inserts
pub mod KeptTests
pub mod Keys
pub mod Loads
pub mod Metadata
pub mod Orders
pub mod Places
