-- Laws about buffers that bytes are put into.
pub mod PutLaws
pub mod BytesLaws
pub mod PartLaws
pub mod NumberLaws
pub mod DecimalLaws
pub mod WrittenLaws
