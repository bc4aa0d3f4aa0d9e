pub mod Refusal
pub mod Returns
