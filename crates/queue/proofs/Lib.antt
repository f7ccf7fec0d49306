pub mod Cutting
pub mod Holding
