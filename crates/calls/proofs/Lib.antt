pub mod Checking
pub mod Calling
pub mod Answering
pub mod Outcome
pub mod Kept
