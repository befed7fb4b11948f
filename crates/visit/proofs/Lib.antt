-- Laws that the proofs of a visit use.
pub mod SinkLaws
pub mod ContentLaws
