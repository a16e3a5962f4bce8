pub mod Matching
pub mod Rewriting
pub mod Plain
pub mod Result
pub mod Laws
pub mod Places
pub mod Walking
