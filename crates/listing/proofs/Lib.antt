-- Laws that the proofs of the listing cite.
pub mod ShortLaws
pub mod TextLaws
pub mod ListLaws
