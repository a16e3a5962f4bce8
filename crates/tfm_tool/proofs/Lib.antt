pub mod WarningLemmas
pub mod ServedLemmas
