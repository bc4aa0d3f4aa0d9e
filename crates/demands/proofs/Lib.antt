pub mod History
pub mod Calls
pub mod Logs
pub mod Runs
pub mod Applies
