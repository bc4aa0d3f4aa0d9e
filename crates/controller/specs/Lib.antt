pub mod Controller
pub mod Variables
pub mod Deeds
pub mod Refusals
pub mod Effects
pub mod Calls
pub mod Invariant
