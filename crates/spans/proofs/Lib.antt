pub mod OutcomeLemmas
pub mod PlaceLaws
pub mod RefusalLemmas
pub mod WorkedRows
