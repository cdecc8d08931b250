pub mod Linear
pub mod Ring
pub mod Fermat
pub mod Shown
pub mod Fields
