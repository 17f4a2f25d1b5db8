-- One object fewer than `enough_records` of crate promise asks for is not enough: with N = L + 2 × T + T × H − 2, a run after which thread 0
-- takes and nothing is free. For all T and H with one link, for all L with two threads of one slot, and for the largest of all three.
use Rattle.std.specs.Prelude.{ℕ, suc, ◌*◌, ◌+◌, ◌-◌, ◌≤◌, ◌≡◌, Bool, true, ◌&&◌, List, [], ◌∷◌, ◌++◌, eqb, replicate}
use Rattle.entries.specs.declared.Sizes.{Sizes}
use Rattle.machine.specs.declared.Call.{Call}
use Rattle.machine.specs.declared.Answer.{Answer}
use Rattle.machine.specs.declared.Answer.TheVariants.{Refused}
use Rattle.machine.specs.declared.refusal.Refusal.TheVariants.{NoneFree}
use Rattle.machine.specs.Fresh.{fresh_of}
use Rattle.machine.specs.Answers.{numbers_of}
use Rattle.machine.specs.Step.{step_of}
use Rattle.entries.specs.Sizes.{in_range}
use Rattle.edges.specs.Runs.{sizes, call, on}
use Rattle.promise.specs.History.{state_by}
use Rattle.promise.specs.Run.{state}
use Rattle.witness.specs.Unchecked.{unchecked}
use Rattle.witness.specs.Reached.{each, leave}

-- thread 0 takes an object and puts it into the link
abbrev fill : ℕ → List Call
fill link = call 0 1 0 0 0 ∷ call 0 3 255 link 0 ∷ []

-- All handovers of the thread have an object. Thread 0 puts one more into link 0. The thread takes an object, begins to protect the one in the
-- link in its slot 0, publishes it and takes along what is in that slot's handover: now it has one in its hand and carries the one from the
-- handover. Then thread 0 protects what is in the link, takes it out, clears its slot and retires it. Its scan looks at each position up to that
-- slot's, and leaves it in the handover there, which has an object again.
abbrev hand_and_scan : ℕ → ℕ → List Call
hand_and_scan slots thread =
    fill 0 ++
    (call thread 1 0 0 0 ∷ call thread 2 0 0 0 ∷ on thread ∷ on thread ∷ []) ++
    (call 0 2 0 0 0 ∷ on 0 ∷ on 0 ∷ on 0 ∷ call 0 3 0 0 0 ∷ call 0 6 0 0 0 ∷ on 0 ∷ call 0 5 0 0 0 ∷ []) ++
    replicate (thread * slots + 2) (on 0)

-- every thread but 0 has all handovers full, a full hand, and carries an object; then thread 0 fills its own handovers, and all links
unfoldable pub starving : ℕ → ℕ → ℕ → List Call
starving t h l =
    each (t - 1) (λ k. each h (λ slot. leave h (suc k) slot) ++ hand_and_scan h (suc k)) ++
    each h (λ slot. leave h 0 slot) ++
    each l fill

abbrev pub sizes_for : ℕ → ℕ → ℕ → Sizes
sizes_for t h l = sizes t h l (l + 2 * t + t * h - 2)

abbrev pub take : Call
take = call 0 1 0 0 0

-- the sizes are in range, and after the run the take is refused 30: "take: no object free"
abbrev pub Starves : ℕ → ℕ → ℕ → Type 0
Starves t h l =
    let z = sizes t h l (l + 2 * t + t * h - 2) in
    (in_range z ≡ true) × ((step_of (state z (starving t h l)) take).answer ≡ Refused NoneFree)

pub record NotEnough : Type 0 where
  pub one_link : (t h : ℕ) → 1 ≤ t → t ≤ 8 → 1 ≤ h → h ≤ 4 → Starves t h 1
  pub more_links : (l : ℕ) → 1 ≤ l → l ≤ 16 → Starves 2 1 l
  pub most : Starves 8 4 16

-- the take's answer on the machine that does not look for 19
abbrev pub answer_on : ℕ → ℕ → ℕ → Answer
answer_on t h l = (unchecked (state_by unchecked (fresh_of (sizes_for t h l)) (starving t h l)) take).answer

abbrev pub starves : ℕ → ℕ → ℕ → Bool
starves t h l = in_range (sizes_for t h l) && eqb (numbers_of (answer_on t h l)).number 30
