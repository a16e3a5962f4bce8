pub mod FeedLemmas
pub mod ReadingLemmas
pub mod KeepLemmas
pub mod ClosedLines
pub mod FinishedLemmas
