pub mod Additions
pub mod Boxes
pub mod Cells
pub mod Kept
pub mod Results
pub mod Runs
pub mod Written
