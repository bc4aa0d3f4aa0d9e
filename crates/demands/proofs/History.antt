-- What the box holds is what the history of the calls says by itself.
pub mod Steps
pub mod Agrees
pub mod Agreement
pub mod Heard
pub mod Telling
pub mod AsTold
pub mod Collects
pub mod Capitals
pub mod Asked
pub mod Arrived
pub mod Shown
pub mod Changing
pub mod Words
pub mod OfBytes
