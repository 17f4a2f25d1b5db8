-- General facts, about no machine: tests, tests of each number under n, counts, lists, numbered rows, the first number that passes a test, words as text.
pub mod Tests
pub mod Under
pub mod Counts
pub mod Sums
pub mod Lists
pub mod Rows
pub mod First
pub mod Functions
pub mod Ascii
