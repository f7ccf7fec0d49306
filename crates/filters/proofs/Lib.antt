mod Bpf
pub mod Finding
mod Lowest
