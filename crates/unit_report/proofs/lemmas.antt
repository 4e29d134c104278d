pub mod CapturedColourPairs
pub mod FreeSkipCounts
pub mod HighlightedLines
pub mod Highlights
pub mod UnitColourPairs
