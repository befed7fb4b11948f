-- The definitions that the contracts of the searches use.
pub mod Mark
pub mod Fours
