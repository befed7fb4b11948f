-- The definitions that the contracts of the writers use.
pub mod Put
pub mod Decimal
