-- Nothing written leaves a buffer as it is.
use Rattle.std.specs.Prelude.{ℕ, List, [], take}
use Rattle.std.proofs.Common.{sym, append-nil, add-zero, take-append-drop}
use Rattle.text.specs.Written.{written, Appended}

pub nothing : (l : List ℕ) (p : ℕ) → Appended l p [] l p
unfolding written
nothing l p = record { next = sym (add-zero p); buffer = rw (add-zero p, append-nil (take p l)) (sym (take-append-drop p l)) }
