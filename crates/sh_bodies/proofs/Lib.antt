pub mod FillLemmas
pub mod CountLemmas
pub mod ReadingLemmas
pub mod SingleLemmas
