-- What holds of every call. To read: Ways, proofs/Promise; OnePlace, Stores; Determined.
pub mod Ways
pub mod OnePlace
pub mod Stores
pub mod Promise
pub mod Determined
