pub mod Keyed
pub mod Rows
