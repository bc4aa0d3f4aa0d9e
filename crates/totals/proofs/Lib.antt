pub mod Table
pub mod Fits
pub mod Chains
pub mod Names
pub mod Reasons
pub mod Examples
