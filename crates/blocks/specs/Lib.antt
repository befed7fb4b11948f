-- The definitions that the contracts of the steps use.
pub mod Block
pub mod Again
pub mod Chain
