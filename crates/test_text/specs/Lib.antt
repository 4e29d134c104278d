pub mod Words
pub mod FreeWords
pub mod StatusLine
pub mod TestFinished
pub mod TestRetry
pub mod TestSkipped
pub mod TestSlow
pub mod TestStarted
