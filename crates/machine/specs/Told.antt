-- A refusal has one number and a number one refusal: what is said of numbers is said of refusals, and the other way round.
use Rattle.std.specs.Prelude.{ℕ, ◌-◌, ◌≡◌, refl, List, [], ◌∷◌, get_or}
use Rattle.std.proofs.Common.{sym, ap, ◌∙◌}
use Rattle.machine.specs.declared.refusal.Refusal.{Refusal}
use Rattle.machine.specs.declared.refusal.Refusal.TheVariants.{Unsound, SizeOutOfRange, NoSuchThread, NoSuchOperation, UnusedNotZero, NoSuchSlot, NoSuchLink, Busy, Idle, HandFull, HandEmpty, NoneFree, NotProtected}
use Rattle.machine.specs.Answers.{number_of}

-- from 19 on
unfoldable in_order : List Refusal
in_order =
    Unsound ∷
    SizeOutOfRange ∷
    NoSuchThread ∷
    NoSuchOperation ∷
    UnusedNotZero ∷
    NoSuchSlot ∷
    NoSuchLink ∷
    Busy ∷
    Idle ∷
    HandFull ∷
    HandEmpty ∷
    NoneFree ∷
    NotProtected ∷
    []

with_number : ℕ → Refusal
with_number n = get_or in_order (n - 19) Unsound

told : (refusal : Refusal) → with_number (number_of refusal) ≡ refusal
unfolding in_order with_number number_of
told Unsound = refl
told SizeOutOfRange = refl
told NoSuchThread = refl
told NoSuchOperation = refl
told UnusedNotZero = refl
told NoSuchSlot = refl
told NoSuchLink = refl
told Busy = refl
told Idle = refl
told HandFull = refl
told HandEmpty = refl
told NoneFree = refl
told NotProtected = refl

pub one_number : (refusal other : Refusal) → number_of refusal ≡ number_of other → refusal ≡ other
one_number refusal other e = sym (told refusal) ∙ ap with_number e ∙ told other
