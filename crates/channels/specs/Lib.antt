pub mod Totals
pub mod Bringing
pub mod Reasons
pub mod Adding
pub mod Walk
pub mod Numbers
