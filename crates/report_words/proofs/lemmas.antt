pub mod Clocks
pub mod ColourPairs
pub mod FreeWords
pub mod PartsInColour
pub mod SplitPaths
