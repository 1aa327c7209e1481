mod BytesLemmas
mod Rows
pub mod AtLemmas
pub mod Bridge
pub mod ChangeLemmas
pub mod FirstsLemmas
pub mod Growing
pub mod IsolationLemmas
pub mod KeptLemmas
pub mod Keys
pub mod Maps
pub mod MergingLemmas
pub mod MomentsLemmas
pub mod PackedLemmas
pub mod PartLemmas
pub mod Runs
pub mod SettledLemmas
pub mod ShapeLemmas
pub mod SmallerLemmas
pub mod SoundLemmas
pub mod Steps
pub mod WellFormed
