pub mod Layout
pub mod Opened
