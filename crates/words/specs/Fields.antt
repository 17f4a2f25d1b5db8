-- A word read in its place of a step's line.
use Rattle.std.specs.Prelude.{ℕ, List, Option, Some, None, cond, length, eqb, Result, Ok, Err}
use Rattle.words.specs.declared.Operation.{Operation}
use Rattle.words.specs.declared.Why.{Why}
use Rattle.words.specs.declared.Why.TheVariants.{NotOperation}
use Rattle.words.specs.Numbers.{all_digits, number_of, byte_of}
use Rattle.words.specs.Names.{named_of, number_of_operation, no_slot}

-- what a name says, and what is said of a word that is none
unfoldable pub named_or : Option Operation → Result ℕ Why → Result ℕ Why
named_or (Some operation) otherwise = Ok (number_of_operation operation)
named_or None otherwise = otherwise

-- an operation is a name, or a number of one byte, which is not judged
unfoldable pub operation_of : List ℕ → Result ℕ Why
operation_of word = named_or (named_of word) (cond (all_digits word) (byte_of word) (Err NotOperation))

-- "where not 0": a field that is not written is 0
unfoldable pub byte_or_zero : List ℕ → Result ℕ Why
byte_or_zero word = cond (eqb (length word) 0) (Ok 0) (byte_of word)

-- a swap's slot may be no slot, which is 255
unfoldable pub slot_of : ℕ → List ℕ → Result ℕ Why
slot_of operation word = cond (eqb operation 3) (cond (no_slot word) (Ok 255) (byte_or_zero word)) (byte_or_zero word)

-- the tag has 32 bits
unfoldable pub tag_of : List ℕ → Result ℕ Why
tag_of word = cond (eqb (length word) 0) (Ok 0) (number_of word 4294967295)
