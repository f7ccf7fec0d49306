pub mod Replying
pub mod Listing
pub mod Giving
pub mod Serving
pub mod Attaching
pub mod Receiving
