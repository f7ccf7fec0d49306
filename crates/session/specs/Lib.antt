pub mod Linked
pub mod Held
