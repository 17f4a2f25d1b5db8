-- To believe: Pool. To read: Promise, which says all that anyone above needs.
pub mod Pool
pub mod Promise
pub mod Quick
pub mod Lemmas
