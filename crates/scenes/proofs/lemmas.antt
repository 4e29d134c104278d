pub mod Accepted
pub mod FirstRefused
pub mod Gathered
pub mod Kept
pub mod Laws
pub mod SceneCalls
pub mod WrittenReports
