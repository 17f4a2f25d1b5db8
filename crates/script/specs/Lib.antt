pub mod Reading
pub mod Lines
pub mod Packing
pub mod Promise
