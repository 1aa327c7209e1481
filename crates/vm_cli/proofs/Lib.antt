pub mod Numbers
pub mod Matches
pub mod Commands
pub mod FaultFree
pub mod Levels
pub mod Entered
pub mod Asked
pub mod Parts
pub mod Spaces
pub mod Settlements
pub mod Escapes
pub mod Names
pub mod Known
pub mod Written
pub mod CarriedLemmas
pub mod GivenLemmas
pub mod CountingLemmas
pub mod PassLemmas
mod SurveyLemmas
pub mod SessionLemmas
pub mod ChainLemmas
pub mod HandledLemmas
pub mod ListedLemmas
pub mod MergeLemmas
pub mod OpeningLemmas
pub mod OthersLemmas
pub mod RequestLemmas
pub mod WritesLemmas
pub mod FeedLemmas
pub mod EndLemmas
pub mod GrowthLemmas
pub mod ServeLemmas
pub mod ReadOnlyLemmas
pub mod ExitLemmas
pub mod KeepLemmas
pub mod SessionKeepLemmas
pub mod DiskUseLemmas
mod CopyingLemmas
mod FilesLemmas
mod PlaceLemmas
mod RealFilesLemmas
mod CachingLemmas
mod DelayingLemmas
mod MemFilesLemmas
pub mod BatchLemmas
pub mod RepeatedLemmas
pub mod ReadingLemmas
pub mod CarryLemmas
pub mod SettleLemmas
pub mod StreamLemmas
pub mod PlannerLemmas
pub mod WaitingLemmas
pub mod HallLemmas
pub mod QueueLemmas
pub mod LaterLemmas
pub mod SeatLemmas
pub mod RoundLemmas
pub mod KindLemmas
pub mod StreamEndLemmas
mod StreamPassLemmas
mod LineUseLemmas
mod PlannerLineLemmas
mod Rows
mod StreamKeepLemmas
mod WholeLemmas
mod SoundLemmas
mod WaitingSoundLemmas
pub mod PlannerSoundLemmas
pub mod FairnessLemmas
