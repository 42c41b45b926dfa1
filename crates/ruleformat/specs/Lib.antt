pub mod Numbers
pub mod Bytes
pub mod Layout
pub mod Faults
pub mod EdgeWords
pub mod Tables
pub mod Makes
pub mod Once
