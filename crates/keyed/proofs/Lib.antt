pub mod Altering
pub mod Keyed
mod Placing
