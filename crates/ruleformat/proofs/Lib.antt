pub mod Unique
pub mod Rising
pub mod Finding
pub mod TableLaws
pub mod InFront
pub mod Headings
pub mod Chunks
