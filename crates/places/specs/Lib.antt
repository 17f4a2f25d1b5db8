-- To believe: Row. To read: Promise.
pub mod Row
pub mod Promise
pub mod Lemmas
