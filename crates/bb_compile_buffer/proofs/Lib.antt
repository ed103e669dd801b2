-- which codes are within their limits
pub mod WithinLemmas
