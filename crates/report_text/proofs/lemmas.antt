pub mod FreeDetails
pub mod InstanceColourPairs
pub mod InstanceWidths
pub mod NameWidths
pub mod PlainNames
pub mod Quotes
