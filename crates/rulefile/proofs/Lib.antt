pub mod DenseFiles
pub mod EdgeFiles
