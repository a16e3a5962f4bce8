pub mod NameLemmas
pub mod RangeLemmas
mod WorkedRows
