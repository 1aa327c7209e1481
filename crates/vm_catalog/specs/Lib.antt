pub mod Calls
pub mod Catalog
pub mod Laws
pub mod Place
pub mod Publication
pub mod SlotReads
pub mod Written
