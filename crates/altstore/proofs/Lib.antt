pub mod Boxes
pub mod ExportLemmas
pub mod ImageLemmas
pub mod MakingLemmas
pub mod Walking
