pub mod Line
pub mod Program
pub mod Searches
pub mod Loops
