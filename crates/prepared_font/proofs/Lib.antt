pub mod ChainSteps
pub mod FileLemmas
pub mod WordLemmas
