pub mod FirstFault
pub mod AppendingLemmas
pub mod CountLemmas
pub mod ReachLemmas
pub mod ScalingLemmas
pub mod WorkedRows
