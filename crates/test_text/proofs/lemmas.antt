pub mod FreeStatusLines
pub mod FreeTests
pub mod PassWords
