-- "The plain store. It keeps links, hands and slots, and makes a new record at each take, never discarding one."
use Rattle.std.specs.Prelude.{ℕ, suc, ◌+◌, ◌*◌, ◌-◌, cond, List, [], ◌∷◌, ◌++◌, length, get_or, eqb}
use Rattle.basics.specs.Functions.{put}
use Rattle.machine.specs.Answers.{Numbers, numbers}

-- Each holds the number of a record, or 0 for nothing; records are numbered from 1 in the order of their takes, and `tags` has their tags
-- in that order. A slot goes by its position.
pub record Store : Type 0 where
  pub links : ℕ → ℕ
  pub hands : ℕ → ℕ
  pub slots : ℕ → ℕ
  pub tags : List ℕ

abbrev pub empty_store : Store
empty_store = record { links = λ i. 0; hands = λ t. 0; slots = λ p. 0; tags = [] }

-- record 0 is none, and has tag 0
unfoldable pub tag_of_record : Store → ℕ → ℕ
tag_of_record store number = cond (eqb number 0) 0 (get_or store.tags (number - 1) 0)

-- the calls that the store does whole, with the fields they use
pub data PlainCall : Type 0 where
  take : ℕ → ℕ → PlainCall
  protect : ℕ → ℕ → ℕ → PlainCall
  swap : ℕ → ℕ → ℕ → PlainCall
  read : ℕ → ℕ → PlainCall
  retire : ℕ → PlainCall
  clear : ℕ → ℕ → PlainCall

module _ (per_thread : ℕ) where
  -- "A slot's position is thread × H + slot"
  abbrev pub at : ℕ → ℕ → ℕ
  at thread slot = thread * per_thread + slot

  -- what a swap compares the link with: "the slot's object (255: holds 0)"
  abbrev pub expected : Store → ℕ → ℕ → ℕ
  expected store thread slot = cond (eqb slot 255) 0 (store.slots (at thread slot))

  -- the answer's number and values, a record's number where the machine has an object's
  unfoldable pub says : Store → PlainCall → Numbers
  says store (take thread tag) = numbers 1 (suc (length store.tags)) 0
  says store (protect thread slot link) =
      cond (eqb (store.links link) 0)
      (numbers 5 0 0)
      (numbers 4 (store.links link) (tag_of_record store (store.links link)))
  says store (swap thread slot link) =
      cond (eqb (store.links link) (expected store thread slot)) (numbers 6 (store.links link) 0) (numbers 7 0 0)
  says store (read thread slot) = numbers 8 (tag_of_record store (store.slots (at thread slot))) 0
  says store (retire thread) = numbers 2 (store.hands thread) 0
  says store (clear thread slot) = numbers 2 0 0

  -- "it does each whole: protect puts the link's record in the slot, retire empties the hand, clear empties the slot"
  unfoldable pub next : Store → PlainCall → Store
  next store (take thread tag) =
      record {
        links = store.links;
        hands = put store.hands thread (suc (length store.tags));
        slots = store.slots;
        tags = store.tags ++ (tag ∷ []);
      }
  next store (protect thread slot link) =
      record {
        links = store.links;
        hands = store.hands;
        slots = put store.slots (at thread slot) (store.links link);
        tags = store.tags;
      }
  next store (swap thread slot link) =
      cond (eqb (store.links link) (expected store thread slot))
      (record {
        links = put store.links link (store.hands thread);
        hands = put store.hands thread (store.links link);
        slots = store.slots;
        tags = store.tags;
      })
      store
  next store (read thread slot) = store
  next store (retire thread) =
      record { links = store.links; hands = put store.hands thread 0; slots = store.slots; tags = store.tags }
  next store (clear thread slot) =
      record {
        links = store.links;
        hands = store.hands;
        slots = put store.slots (at thread slot) 0;
        tags = store.tags;
      }

  -- a list of calls, one after the other: the answers, and the store afterwards
  unfoldable pub store_says : Store → List PlainCall → List Numbers
  store_says store [] = []
  store_says store (call ∷ calls) = says store call ∷ store_says (next store call) calls

  unfoldable pub store_after : Store → List PlainCall → Store
  store_after store [] = store
  store_after store (call ∷ calls) = store_after (next store call) calls
