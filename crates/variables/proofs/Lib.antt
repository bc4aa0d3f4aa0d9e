pub mod Bits
pub mod Addresses
