-- What a method of a page, or a function that writes on one, says of the page after it.
use Rattle.std.specs.Prelude.{ℕ, ◌+◌, ◌≤◌, ◌≡◌, List, length}
use Rattle.text.specs.declared.page.Page.{Page}
use Rattle.text.specs.Written.{Appended, Put}

-- so many bytes fit from the place on
abbrev pub HasRoom : ℕ → Page → Type 0
HasRoom room page = page.at + room ≤ length page.out.now

-- these bytes stand from the place on, every other byte is as it was, and the place is the one after them; the buffer is the same one
pub record Wrote (before : Page) (bytes : List ℕ) (after : Page) : Type 0 where
  pub same : after.out.ghost_name ≡ before.out.ghost_name
  pub written : Appended before.out.now before.at bytes after.out.now after.at

-- the same of bytes that are no more than so many
pub record WroteWithin (most : ℕ) (before : Page) (bytes : List ℕ) (after : Page) : Type 0 where
  pub within : length bytes ≤ most
  pub wrote : Wrote before bytes after

-- the same where there is so much room from the place on, and nothing changes where there is less
pub record PutOn (room : ℕ) (bytes : List ℕ) (before after : Page) : Type 0 where
  pub same : after.out.ghost_name ≡ before.out.ghost_name
  pub put : Put room bytes before.out.now before.at after.out.now after.at

abbrev pub PutWholeOn : List ℕ → Page → Page → Type 0
PutWholeOn bytes before after = PutOn (length bytes) bytes before after
