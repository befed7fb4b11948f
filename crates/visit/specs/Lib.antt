-- The definitions that the contracts of a visit use.
pub mod Sink
pub mod Content
