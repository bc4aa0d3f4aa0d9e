pub mod Collecting
pub mod Command
pub mod Naming
pub mod Invariant
pub mod Sound
