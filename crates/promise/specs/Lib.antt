-- Demand 3. To read: the store, the history, the reading, what was asked, the listing, the holdings, what was given up, the run; then Promise.
-- That it is kept is in proofs/Promise, and proofs/Enough says how many objects are enough.
pub mod Store
pub mod History
pub mod Reading
pub mod Asked
pub mod Listing
pub mod Holdings
pub mod GivenUp
pub mod Run
pub mod Promise
pub mod Guard
