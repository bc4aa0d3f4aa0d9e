pub mod Gathering
pub mod Following
mod Behind
pub mod Within
