pub mod PlainResponses
pub mod Words
pub mod FreeWords
pub mod Response
pub mod Seconds
pub mod Start
pub mod State
