pub mod Text
pub mod Faults
pub mod Kept
pub mod Numbers
pub mod Reading
pub mod AtEnd
