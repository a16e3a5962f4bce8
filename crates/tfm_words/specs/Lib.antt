pub mod Word
pub mod Scaling
pub mod Counts
pub mod CountFaults
pub mod DesignSize
pub mod FaultTexts
pub mod Appending
