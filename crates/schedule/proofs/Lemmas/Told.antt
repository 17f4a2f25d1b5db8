-- The number with which a run stops tells why it stops.
use Rattle.std.specs.Prelude.{ℕ, ◌≡◌, refl, cond, eqb}
use Rattle.std.proofs.Common.{sym, ap, ◌∙◌}
use Rattle.machine.specs.declared.refusal.Refusal.TheVariants.{Unsound, SizeOutOfRange, NoSuchThread, NoSuchOperation, UnusedNotZero, NoSuchSlot, NoSuchLink, Busy, Idle, HandFull, HandEmpty, NoneFree, NotProtected}
use Rattle.machine.specs.Answers.{number_of}
use Rattle.records.specs.declared.Malformed.TheVariants.{Short, OtherMark, NotZero}
use Rattle.records.specs.Numbers.{malformed_number}
use Rattle.schedule.specs.declared.Stop.{Stop}
use Rattle.schedule.specs.declared.Stop.TheVariants.{Malformed, Refused, SizesNotFirst, TooManySteps}
use Rattle.schedule.specs.Stopping.{stop_number}

-- why a run stops, again from its number; another number is none's
abbrev stop_from : ℕ → Stop
stop_from k =
    cond (eqb k 19) (Refused Unsound)
    (cond (eqb k 20) (Refused SizeOutOfRange)
    (cond (eqb k 21) (Refused NoSuchThread)
    (cond (eqb k 22) (Refused NoSuchOperation)
    (cond (eqb k 23) (Refused UnusedNotZero)
    (cond (eqb k 24) (Refused NoSuchSlot)
    (cond (eqb k 25) (Refused NoSuchLink)
    (cond (eqb k 26) (Refused Busy)
    (cond (eqb k 27) (Refused Idle)
    (cond (eqb k 28) (Refused HandFull)
    (cond (eqb k 29) (Refused HandEmpty)
    (cond (eqb k 30) (Refused NoneFree)
    (cond (eqb k 31) (Refused NotProtected)
    (cond (eqb k 40) (Malformed Short)
    (cond (eqb k 41) (Malformed OtherMark)
    (cond (eqb k 44) (Malformed NotZero)
    (cond (eqb k 42) SizesNotFirst TooManySteps))))))))))))))))

from_number : (why : Stop) → stop_from (stop_number why) ≡ why
unfolding stop_number number_of malformed_number
from_number (Refused Unsound) = refl
from_number (Refused SizeOutOfRange) = refl
from_number (Refused NoSuchThread) = refl
from_number (Refused NoSuchOperation) = refl
from_number (Refused UnusedNotZero) = refl
from_number (Refused NoSuchSlot) = refl
from_number (Refused NoSuchLink) = refl
from_number (Refused Busy) = refl
from_number (Refused Idle) = refl
from_number (Refused HandFull) = refl
from_number (Refused HandEmpty) = refl
from_number (Refused NoneFree) = refl
from_number (Refused NotProtected) = refl
from_number (Malformed Short) = refl
from_number (Malformed OtherMark) = refl
from_number (Malformed NotZero) = refl
from_number SizesNotFirst = refl
from_number TooManySteps = refl

pub told : (a b : Stop) → stop_number a ≡ stop_number b → a ≡ b
told a b e = sym (from_number a) ∙ ap stop_from e ∙ from_number b
