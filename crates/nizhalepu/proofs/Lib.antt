pub mod Agreement
pub mod Plans
pub mod Explaining
