pub mod Known
pub mod Related
pub mod Sets
