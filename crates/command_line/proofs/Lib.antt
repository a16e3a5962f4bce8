pub mod CommandLemmas
pub mod ValueLemmas
pub mod AskedLemmas
pub mod WorkedRows
