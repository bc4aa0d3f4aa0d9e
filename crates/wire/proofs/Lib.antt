pub mod Collecting
pub mod Addresses
pub mod Named
pub mod Commands
pub mod Quiet
pub mod Says
pub mod DataHeard
pub mod Ways
