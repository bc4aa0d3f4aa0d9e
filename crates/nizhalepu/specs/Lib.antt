pub mod InRecord
pub mod Durations
pub mod Stops
