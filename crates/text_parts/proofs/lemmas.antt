pub mod Finishes
pub mod LineColourPairs
pub mod OutputColourPairs
pub mod ResultColourPairs
