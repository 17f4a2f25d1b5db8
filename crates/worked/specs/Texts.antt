-- Two small texts worked out, so that the definitions can be read against them.
use Rattle.std.specs.Prelude.{ℕ, List}
use Rattle.basics.specs.Ascii.{ascii}

-- a line of sizes, a blank line, `0 swap - 0 # c`, and `1 7 0 0 70000` with no line's end after it
abbrev pub good_text : List ℕ
good_text = ascii "2 1 1 3\n\n0 swap - 0 # c\n1 7 0 0 70000"

-- the sizes, and `0 tak`
abbrev pub bad_text : List ℕ
bad_text = ascii "2 1 1 3\n0 tak"
