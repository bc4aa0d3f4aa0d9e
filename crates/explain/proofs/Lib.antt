pub mod Reading
pub mod Fits
pub mod Examples
