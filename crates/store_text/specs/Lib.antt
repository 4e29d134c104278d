pub mod Netstring
pub mod Record
pub mod StoredOutput
