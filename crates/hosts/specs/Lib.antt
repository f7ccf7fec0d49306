pub mod Events
pub mod Keeping
pub mod Losing
pub mod Meaning
pub mod Recording
pub mod Rules
pub mod Shapes
pub mod Losses
