pub mod Exchanges
pub mod Numbers
