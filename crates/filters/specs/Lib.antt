pub mod Fitting
pub mod Statuses
pub mod Texts
pub mod Rows
pub mod Keys
pub mod Held
