mod LedgerLemmas
pub mod PlaceLemmas
pub mod PublishLemmas
mod ReadingLemmas
pub mod SlotBytes
pub mod SlotLaw
pub mod SlotOne
mod WrittenLemmas
