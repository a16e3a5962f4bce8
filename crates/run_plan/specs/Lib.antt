pub mod Held
pub mod Versions
