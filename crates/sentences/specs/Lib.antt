-- What a reader has to believe: an object's sentence, how a run ends, the text, a written buffer. `Promise` has what
-- is promised of them.
pub mod Sentence
pub mod Ends
pub mod Told
pub mod Lent
pub mod Lemmas
pub mod Promise
