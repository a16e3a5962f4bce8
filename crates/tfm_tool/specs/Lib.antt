pub mod Served
pub mod Verbose
pub mod Warnings
