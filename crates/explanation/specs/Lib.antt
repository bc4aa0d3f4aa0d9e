pub mod Refusals
pub mod Report
pub mod NextDue
pub mod Reasons
pub mod Facts
