-- Document 01, "Traps": calls from a fresh machine on which each changed rule fails, computed. By request 2 a protect has three go ons, where
-- the link is as it was: one publishes, one takes what is in the slot's handover along (nothing, in these calls), and one reads the link again.
use Rattle.std.specs.Prelude.{ℕ, suc, ◌≡◌, ◌&&◌, List, [], ◌∷◌, ◌++◌, map, eqb, drop}
use Rattle.entries.specs.declared.Sizes.{Sizes}
use Rattle.machine.specs.declared.State.{State}
use Rattle.machine.specs.declared.Call.{Call}
use Rattle.machine.specs.Parts.{free_at}
use Rattle.basics.specs.Counts.{how_many}
use Rattle.entries.specs.Entries.{is_object}
use Rattle.edges.specs.Runs.{six, sizes, call, on, Machine, started, step_line}
use Rattle.edges.specs.Rules.{Change, base}
use Rattle.edges.specs.TrapRules.{moves_on, marks_at_once, drains_first, frees_at_last, skips_own}

-- how many protected slots hold an object that is free: what must never be
unfoldable pub free_yet_protected : State → ℕ
free_yet_protected s = how_many (λ slot. slot.mark && free_at s slot.hazard) s.slots

-- how many slots without a hazard hold a handover: where the slot's thread is idle, nobody is about to take it up
unfoldable pub left_behind : State → ℕ
left_behind s = how_many (λ slot. eqb slot.hazard 0 && is_object slot.handover) s.slots

-- a row: the rules, the sizes, the calls and one more, and what is expected: the line of that last call, how many are free yet protected, how many are
-- left behind
pub record Trap : Type 0 where
  pub rules : Change
  pub sizes : Sizes
  pub calls : List Call
  pub final : Call
  pub last : List ℕ
  pub freed : ℕ
  pub left : ℕ

-- `line` is that of the call before
unfoldable pub end_of : Machine → ℕ → List ℕ → State → List Call → List (List ℕ)
end_of machine steps line s [] = line ∷ (free_yet_protected s ∷ left_behind s ∷ []) ∷ []
end_of machine steps line s (c ∷ calls) =
    let o = machine s c in
    end_of machine (suc steps) (step_line (suc steps) c o.answer) o.state calls

-- the calls of a row on some machine
unfoldable pub shown_on : Machine → Trap → List (List ℕ)
shown_on machine trap = end_of machine 0 [] (started trap.sizes) (trap.calls ++ (trap.final ∷ []))

unfoldable pub foretold : Trap → List (List ℕ)
foretold trap = trap.last ∷ (trap.freed ∷ trap.left ∷ []) ∷ []

-- Thread 0's slot holds object 1, thread 1 takes it out of the link, retires it and meets that hazard. Before it swaps, thread 0 protects object
-- 2 in the same slot, takes it out, retires it and leaves it there. Now thread 1 swaps, and the displaced object 2 goes on past the slot
-- that protects it.
unfoldable pub moving_on : Trap
moving_on =
    record {
      rules = moves_on;
      sizes = sizes 2 1 1 2;
      calls =
          call 1 1 0 0 11 ∷
          call 1 3 255 0 0 ∷
          call 0 2 0 0 0 ∷
          on 0 ∷
          on 0 ∷
          on 0 ∷
          call 1 2 0 0 0 ∷
          on 1 ∷
          on 1 ∷
          on 1 ∷
          call 1 3 0 0 0 ∷
          call 1 5 0 0 0 ∷
          on 1 ∷
          call 0 1 0 0 22 ∷
          call 0 3 255 0 0 ∷
          call 0 2 0 0 0 ∷
          on 0 ∷
          on 0 ∷
          on 0 ∷
          call 0 3 0 0 0 ∷
          call 0 5 0 0 0 ∷
          on 0 ∷
          on 0 ∷
          on 1 ∷
          on 1 ∷
          [];
      final = on 1;
      last = six 26 1 7 11 2 0;
      freed = 1;
      left = 0;
    }

-- Thread 0 has read object 1 in the link when thread 1 takes it out, retires it and looks past thread 0's slot. Then thread 0 publishes. The
-- fifth call and the sixth are the step on the handover and the second read, which are refused where there are none.
unfoldable pub marking_at_once : Trap
marking_at_once =
    record {
      rules = marks_at_once;
      sizes = sizes 2 1 1 1;
      calls =
          call 1 1 0 0 11 ∷
          call 1 3 255 0 0 ∷
          call 1 2 0 0 0 ∷
          on 1 ∷
          on 1 ∷
          on 1 ∷
          call 0 2 0 0 0 ∷
          call 1 3 0 0 0 ∷
          call 1 6 0 0 0 ∷
          on 1 ∷
          call 1 5 0 0 0 ∷
          on 1 ∷
          on 0 ∷
          on 1 ∷
          [];
      final = on 1;
      last = six 15 1 7 11 1 0;
      freed = 1;
      left = 0;
    }

-- Thread 1 has drained its slot, and its hazard still stands, when thread 0 leaves object 1 there. In the end no hazard stands and both threads
-- are idle, and the object is in the handover that was drained. Nothing that is protected is freed by this rule.
unfoldable pub draining_first : Trap
draining_first =
    record {
      rules = drains_first;
      sizes = sizes 2 1 1 1;
      calls =
          call 0 1 0 0 11 ∷
          call 0 3 255 0 0 ∷
          call 1 2 0 0 0 ∷
          on 1 ∷
          on 1 ∷
          on 1 ∷
          call 0 2 0 0 0 ∷
          on 0 ∷
          on 0 ∷
          on 0 ∷
          call 0 3 0 0 0 ∷
          call 0 6 0 0 0 ∷
          on 0 ∷
          call 1 6 0 0 0 ∷
          call 0 5 0 0 0 ∷
          on 0 ∷
          on 0 ∷
          on 0 ∷
          [];
      final = on 1;
      last = six 19 1 7 9 0 0;
      freed = 0;
      left = 1;
    }

-- One slot holds object 1, and the scan's match there is its last.
unfoldable pub freeing_at_last : Trap
freeing_at_last =
    record {
      rules = frees_at_last;
      sizes = sizes 1 1 1 1;
      calls =
          call 0 1 0 0 11 ∷
          call 0 3 255 0 0 ∷
          call 0 2 0 0 0 ∷
          on 0 ∷
          on 0 ∷
          on 0 ∷
          call 0 3 0 0 0 ∷
          call 0 5 0 0 0 ∷
          [];
      final = on 0;
      last = six 9 0 7 11 1 0;
      freed = 1;
      left = 0;
    }

-- The one slot that holds object 1 is that of the thread which retires it.
unfoldable pub skipping_own : Trap
skipping_own =
    record {
      rules = skips_own;
      sizes = sizes 1 1 1 1;
      calls =
          call 0 1 0 0 11 ∷
          call 0 3 255 0 0 ∷
          call 0 2 0 0 0 ∷
          on 0 ∷
          on 0 ∷
          on 0 ∷
          call 0 3 0 0 0 ∷
          call 0 5 0 0 0 ∷
          on 0 ∷
          [];
      final = on 0;
      last = six 10 0 7 11 1 0;
      freed = 1;
      left = 0;
    }

unfoldable pub traps : List Trap
traps = moving_on ∷ marking_at_once ∷ draining_first ∷ freeing_at_last ∷ skipping_own ∷ []

-- Each changed machine ends as foretold: an object is free that a protected slot holds or, where the drain comes first, is left behind. By
-- the machine's own rules the same calls do neither.
pub record AreTraps (changed : Change → Machine) (machine : Machine) : Type 0 where
  pub fail : map (λ trap. shown_on (changed trap.rules) trap) traps ≡ map foretold traps
  pub hold : map (λ trap. drop 1 (shown_on machine trap)) traps ≡ map (λ trap. (0 ∷ 0 ∷ []) ∷ []) traps

-- The order of clear does not keep every object from being left behind: thread 0 has met the hazard when thread 1 zeroes and drains, and swaps
-- after that. So by the machine's own rules too an object may stay in the handover of an idle thread's slot, until that slot is cleared
-- or a protect publishes in it.
unfoldable pub swap_after_drain : Trap
swap_after_drain =
    record {
      rules = base;
      sizes = sizes 2 1 1 1;
      calls =
          call 0 1 0 0 11 ∷
          call 0 3 255 0 0 ∷
          call 1 2 0 0 0 ∷
          on 1 ∷
          on 1 ∷
          on 1 ∷
          call 0 2 0 0 0 ∷
          on 0 ∷
          on 0 ∷
          on 0 ∷
          call 0 3 0 0 0 ∷
          call 0 6 0 0 0 ∷
          on 0 ∷
          call 0 5 0 0 0 ∷
          on 0 ∷
          on 0 ∷
          call 1 6 0 0 0 ∷
          on 1 ∷
          [];
      final = on 0;
      last = six 19 0 7 10 1 1;
      freed = 0;
      left = 1;
    }
