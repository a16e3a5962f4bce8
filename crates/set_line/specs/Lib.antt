pub mod Terms
pub mod Pieces
pub mod Width
pub mod Answer
pub mod Onward
pub mod Record
pub mod Lines
pub mod Returns
