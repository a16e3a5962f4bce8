pub mod FeedLemmas
pub mod InputLemmas
pub mod PendingLemmas
pub mod ReadingLemmas
pub mod TextLemmas
pub mod WorkedRows
