pub mod Bytes
pub mod Tokens
pub mod Glyphs
pub mod Names
pub mod Vectors
pub mod Unknown
pub mod Reading
pub mod FaultText
