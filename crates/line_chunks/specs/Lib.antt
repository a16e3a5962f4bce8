pub mod Chunks
pub mod ChunkText
pub mod Pending
pub mod Skipping
pub mod Reading
