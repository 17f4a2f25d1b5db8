-- What each thread has asked for, as far as it can be seen from the calls and their answers: which operation it last began, and the slot and link
-- of its last accepted protect.
use Rattle.std.specs.Prelude.{ℕ, Bool, cond, ◌&&◌, ◌||◌, List, [], ◌∷◌, eqb}
use Rattle.basics.specs.Functions.{put}
use Rattle.entries.specs.Sizes.{within}
use Rattle.promise.specs.History.{Event, answer_number}

-- for each thread: the operation that it last began, 2 protect, 5 retire or 6 clear; and what its last protect named
pub record Memory : Type 0 where
  pub begun : ℕ → ℕ
  pub slot : ℕ → ℕ
  pub link : ℕ → ℕ

abbrev pub none_asked : Memory
none_asked = record { begun = λ t. 0; slot = λ t. 0; link = λ t. 0 }

-- 1 to 11 are answers, all other numbers refusals
abbrev pub is_accepted : Event → Bool
is_accepted e = within 1 11 (answer_number e)

-- an accepted call of an operation that is begun and then gone on with
unfoldable pub remembered : Memory → Event → Memory
remembered m e =
    cond (is_accepted e && eqb e.call.operation 2)
    (record {
      begun = put m.begun e.call.thread 2;
      slot = put m.slot e.call.thread e.call.slot;
      link = put m.link e.call.thread e.call.link;
    })
    (cond (is_accepted e && (eqb e.call.operation 5 || eqb e.call.operation 6))
    (record { begun = put m.begun e.call.thread e.call.operation; slot = m.slot; link = m.link })
    m)

unfoldable pub memory_after : Memory → List Event → Memory
memory_after m [] = m
memory_after m (e ∷ events) = memory_after (remembered m e) events
