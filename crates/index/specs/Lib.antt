-- The definitions that the contracts of the index cite.
pub mod Text
pub mod Verdict
