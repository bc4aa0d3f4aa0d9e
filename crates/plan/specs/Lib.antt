pub mod Telling
pub mod Reading
