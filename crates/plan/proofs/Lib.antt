pub mod Feeding
pub mod Answers
pub mod Table
pub mod Fits
pub mod KeptSame
pub mod AsSaid
pub mod Examples
