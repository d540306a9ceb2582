pub mod CalendarLemmas
pub mod CanonicalLemmas
pub mod Facts
pub mod ReadLemmas
