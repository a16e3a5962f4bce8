pub mod ArrayLemmas
pub mod ReadingLemmas
pub mod FillingLemmas
pub mod TextLemmas
pub mod EncodedLemmas
pub mod FontLemmas
pub mod SpanLemmas
