pub mod ListingLemmas
pub mod PairLemmas
pub mod PairRows
pub mod WorkedRows
