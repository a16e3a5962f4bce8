pub mod ByteLemmas
pub mod TokenLemmas
pub mod ReadingLemmas
pub mod LineLemmas
pub mod GlyphLemmas
pub mod NumberLemmas
pub mod UnknownLemmas
pub mod WorkedRows
