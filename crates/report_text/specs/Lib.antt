pub mod Failure
pub mod Instance
pub mod Interceptor
pub mod Quoting
