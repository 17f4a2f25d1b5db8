-- A word read as a decimal number.
use Rattle.std.specs.Prelude.{ℕ, ◌+◌, ◌*◌, ◌-◌, List, [], ◌∷◌, Bool, true, ◌&&◌, cond, leb, Result, Ok, Err}
use Rattle.words.specs.declared.Why.{Why}
use Rattle.words.specs.declared.Why.TheVariants.{Missing, NotNumber, TooLarge}

-- the digits 0 to 9 are the bytes 48 to 57
unfoldable pub is_digit : ℕ → Bool
is_digit b = leb 48 b && leb b 57

unfoldable pub all_digits : List ℕ → Bool
all_digits [] = true
all_digits (b ∷ bs) = is_digit b && all_digits bs

-- the number that digits make after the number that those before them make: ten times that, and the digit
unfoldable pub worth_after : ℕ → List ℕ → ℕ
worth_after before [] = before
worth_after before (b ∷ bs) = worth_after (10 * before + (b - 48)) bs

-- the decimal value of digits
unfoldable pub worth_of : List ℕ → ℕ
worth_of word = worth_after 0 word

-- a value that is at most the largest of its field
unfoldable pub fitting : ℕ → ℕ → Result ℕ Why
fitting most value = cond (leb value most) (Ok value) (Err TooLarge)

-- what a word with bytes says
unfoldable pub spelled : List ℕ → ℕ → Result ℕ Why
spelled word most = cond (all_digits word) (fitting most (worth_of word)) (Err NotNumber)

-- what a word says where a number up to `most` is wanted
unfoldable pub number_of : List ℕ → ℕ → Result ℕ Why
number_of [] most = Err Missing
number_of (b ∷ bs) most = spelled (b ∷ bs) most

-- a number of one byte
unfoldable pub byte_of : List ℕ → Result ℕ Why
byte_of word = number_of word 255
