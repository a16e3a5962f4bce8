pub mod Warnings
pub mod Texts
pub mod Verdicts
pub mod Tallies
