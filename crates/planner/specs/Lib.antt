pub mod Plan
pub mod Lines
pub mod Planned
pub mod Reasons
pub mod ByTheRule
pub mod Refusals
pub mod Laid
