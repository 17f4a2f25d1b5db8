-- The promises are not true for an empty reason, and their numbers are no larger than they must be. Reached has runs at demand 3's bound,
-- Starving runs that one object more would have saved, Caught one for each trap on which demand 3 fails, and Explained a state for each
-- reason that request 1 names. Unchecked is how these compute.
pub mod Unchecked
pub mod Reached
pub mod Starving
pub mod Caught
pub mod Explained
