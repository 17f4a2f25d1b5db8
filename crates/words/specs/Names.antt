-- The names of operations, and of no slot.
use Rattle.std.specs.Prelude.{ℕ, List, [], ◌∷◌, Bool, true, false, ◌&&◌, cond, eqb, Option, Some, None}
use Rattle.words.specs.declared.Operation.{Operation}
use Rattle.words.specs.declared.Operation.TheVariants.{Take, Protect, Swap, Read, Retire, Clear, GoOn}
use Rattle.basics.specs.Ascii.{ascii}

-- two words are the same, byte for byte
unfoldable pub same_bytes : List ℕ → List ℕ → Bool
same_bytes [] [] = true
same_bytes [] (b ∷ bs) = false
same_bytes (a ∷ xs) [] = false
same_bytes (a ∷ xs) (b ∷ bs) = eqb a b && same_bytes xs bs

-- the number of an operation in a record
unfoldable pub number_of_operation : Operation → ℕ
number_of_operation Take = 1
number_of_operation Protect = 2
number_of_operation Swap = 3
number_of_operation Read = 4
number_of_operation Retire = 5
number_of_operation Clear = 6
number_of_operation GoOn = 7

-- the operation of this name where the word is it, and otherwise what is said of the other names
unfoldable pub if_named : List ℕ → List ℕ → Operation → Option Operation → Option Operation
if_named word name operation otherwise = cond (same_bytes word name) (Some operation) otherwise

-- the operation of a name, none where no operation has it
unfoldable pub named_of : List ℕ → Option Operation
named_of word =
    if_named word (ascii "take") Take
    (if_named word (ascii "protect") Protect
    (if_named word (ascii "swap") Swap
    (if_named word (ascii "read") Read
    (if_named word (ascii "retire") Retire
    (if_named word (ascii "clear") Clear
    (if_named word (ascii "go") GoOn
    (if_named word (ascii "goon") GoOn None)))))))

-- `-` or `none`, for no slot
unfoldable pub no_slot : List ℕ → Bool
no_slot word = cond (same_bytes word (ascii "-")) true (same_bytes word (ascii "none"))
