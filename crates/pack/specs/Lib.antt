-- What a reader has to believe: how a word of the text is quoted.
pub mod Quoting
