pub mod DigitLemmas
pub mod WorkedRows
