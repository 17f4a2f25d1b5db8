-- "Where an answer is an enum, a definition gives this paper's number and values for every one of its cases."
use Rattle.std.specs.Prelude.{ℕ, Option, Some, None, Result, Ok, Err}
use Rattle.machine.specs.declared.Answer.{Answer}
use Rattle.machine.specs.declared.Answer.TheVariants.{Refused, Taken, Begun, Working, Protected, Nothing, Swapped, Moved, Tag, Finished, Left, Freed}
use Rattle.machine.specs.declared.Work.{Work}
use Rattle.machine.specs.declared.Work.TheVariants.{Publication, FailedRead, NoMatch, Match, Displacement, Found, FoundNothing}
use Rattle.machine.specs.declared.refusal.Refusal.{Refusal}
use Rattle.machine.specs.declared.refusal.Refusal.TheVariants.{Unsound, SizeOutOfRange, NoSuchThread, NoSuchOperation, UnusedNotZero, NoSuchSlot, NoSuchLink, Busy, Idle, HandFull, HandEmpty, NoneFree, NotProtected}

-- "Answer (a, b)", its number first
pub record Numbers : Type 0 where
  pub number : ℕ
  pub a : ℕ
  pub b : ℕ

abbrev pub numbers : ℕ → ℕ → ℕ → Numbers
numbers number a b = record { number = number; a = a; b = b }

-- "Let a be 1 after publishing, 2 after a failed second read, 3 after a look with no match, 4 after a look with a match, 5 after a swap that displaced,
-- 6 after a drain that found something, and 7 after request 2's drain that found nothing. Let b be the position concerned."
unfoldable pub work_of : Work → ℕ × ℕ
work_of (Publication position) = (1, position)
work_of (FailedRead position) = (2, position)
work_of (NoMatch position) = (3, position)
work_of (Match position) = (4, position)
work_of (Displacement position) = (5, position)
work_of (Found position) = (6, position)
work_of (FoundNothing position) = (7, position)

-- "Refusal numbers"
unfoldable pub number_of : Refusal → ℕ
number_of Unsound = 19
number_of SizeOutOfRange = 20
number_of NoSuchThread = 21
number_of NoSuchOperation = 22
number_of UnusedNotZero = 23
number_of NoSuchSlot = 24
number_of NoSuchLink = 25
number_of Busy = 26
number_of Idle = 27
number_of HandFull = 28
number_of HandEmpty = 29
number_of NoneFree = 30
number_of NotProtected = 31

-- "Refusals of a call return a = b = 0"
unfoldable pub numbers_of : Answer → Numbers
numbers_of (Refused refusal) = numbers (number_of refusal) 0 0
numbers_of (Taken object) = numbers 1 object 0
numbers_of (Begun object) = numbers 2 object 0
numbers_of (Working work) = numbers 3 (work_of work).0 (work_of work).1
numbers_of (Protected object tag) = numbers 4 object tag
numbers_of Nothing = numbers 5 0 0
numbers_of (Swapped object) = numbers 6 object 0
numbers_of Moved = numbers 7 0 0
numbers_of (Tag tag) = numbers 8 tag 0
numbers_of Finished = numbers 9 0 0
numbers_of (Left object position) = numbers 10 object position
numbers_of (Freed object) = numbers 11 object 0

-- 0 where start or the count is not refused
unfoldable pub verdict_number : Result (Unit {0}) Refusal → ℕ
verdict_number (Ok done) = 0
verdict_number (Err refusal) = number_of refusal

-- 0 where the table of refusals gives none
unfoldable pub refusal_number : Option Refusal → ℕ
refusal_number None = 0
refusal_number (Some refusal) = number_of refusal
