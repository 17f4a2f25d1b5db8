-- What a reader has to believe: a number's digits, a line of fields, words with numbers filled in, bytes put into a lent buffer.
pub mod Decimal
pub mod Fields
pub mod Words
pub mod Written
pub mod Paged
-- laws of these, for the proofs of whoever writes text: nothing in them has to be believed
pub mod Digits
pub mod Appending
pub mod Nothing
pub mod Joining
pub mod Parts
pub mod Putting
pub mod Paging
