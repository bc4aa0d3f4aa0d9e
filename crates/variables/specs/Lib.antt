pub mod Panel
pub mod Variables
