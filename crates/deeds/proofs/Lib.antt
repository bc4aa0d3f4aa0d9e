pub mod Moves
pub mod Commands
