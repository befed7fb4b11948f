-- The definitions that the contracts of the walk use.
pub mod Walk
