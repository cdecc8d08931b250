pub mod Stores
pub mod Rows
pub mod Layouts
pub mod Books
pub mod Keys
