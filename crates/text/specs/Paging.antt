-- Bytes put on a page: the laws of `Appending` and `Putting` for a page, whose buffer stays the same one.
use Rattle.std.specs.Prelude.{ℕ, ◌+◌, ◌≤◌, ◌<◌, ◌≡◌, refl, List, [], ◌∷◌, ◌++◌, length}
use Rattle.std.proofs.Common.{ap, ◌∙◌, arith, length-append}
use Rattle.text.specs.declared.page.Page.{Page}
use Rattle.text.specs.Paged.{HasRoom, Wrote, WroteWithin, PutOn, PutWholeOn}
use Rattle.text.specs.Appending as appending
use Rattle.text.specs.Putting as putting
use Rattle.text.specs.Nothing.{nothing}

-- nothing is put
pub none : (p : Page) → Wrote p [] p
none p = record { same = refl; written = nothing p.out.now p.at }

-- bytes and then bytes
pub then : {x y : List ℕ} {p q r : Page} → Wrote p x q → p.at + length x ≤ length p.out.now → Wrote q y r → Wrote p (x ++ y) r
then a room b = record { same = b.same ∙ a.same; written = appending.then a.written room b.written }

-- bytes, and then one byte after them
module _ {x : List ℕ} {p q : Page} (b : ℕ) (a : Wrote p x q) (room : p.at + length (x ++ b ∷ []) ≤ length p.out.now) where
  pub room_for_one : HasRoom 1 q
  room_for_one = omega (arith, appending.room_for_one b a.written room)

  pub then_one : {r : Page} → Wrote q (b ∷ []) r → Wrote p (x ++ b ∷ []) r
  then_one w = then a (omega (arith, length-append x (b ∷ []))) w

pub length_after : {x : List ℕ} {p q : Page} → Wrote p x q → p.at + length x ≤ length p.out.now → length q.out.now ≡ length p.out.now
length_after a room = appending.length_after a.written room

module _ {room : ℕ} {bytes : List ℕ} {p : Page} where
  -- where there is room, the bytes are put
  pub fitted : {q : Page} → p.at + room ≤ length p.out.now → PutOn room bytes p q → Wrote p bytes q
  fitted h a = record { same = a.same; written = putting.fitted h a.put }

  pub put_there : {q : Page} → p.at + room ≤ length p.out.now → Wrote p bytes q → PutOn room bytes p q
  put_there h a = record { same = a.same; put = putting.put_there h a.written }

  -- where there is none, nothing is
  pub put_nowhere : length p.out.now < p.at + room → PutOn room bytes p p
  put_nowhere h = record { same = refl; put = putting.put_nowhere h }

-- what takes no more than the room that there is
pub put_within : {most : ℕ} {x : List ℕ} {p q : Page} → length x ≤ most → HasRoom most p → PutWholeOn x p q → WroteWithin most p x q
put_within short room a = record { within = short; wrote = fitted (omega arith) a }

-- the same in two parts
pub both_within :
    {most : ℕ} {all : List ℕ} {p q r : Page} (x y : List ℕ) → all ≡ x ++ y → length all ≤ most → HasRoom most p → PutWholeOn x p q →
    PutWholeOn y q r → WroteWithin most p all r
both_within {all = all} {p = p} {q = q} x y e short room a b =
    let cut : length all ≡ length x + length y = ap length e ∙ length-append x y in
    let first : Wrote p x q = fitted (omega arith) a in
    let kept = length_after first (omega arith) in
    record { within = short; wrote = rw e (then first (omega arith) (fitted (omega (arith, first.written.next)) b)) }

-- a template that takes no more than three bytes a byte
pub filled_within :
    {most room : ℕ} {x : List ℕ} {p q : Page} → room ≤ most → HasRoom most p → q.at ≤ p.at + room → PutOn room x p q → WroteWithin most p x q
filled_within {room = room} {x = x} {p = p} {q = q} small there within a =
    let wrote : Wrote p x q = fitted {room = room} (omega arith) a in
    record { within = omega (arith, wrote.written.next); wrote = wrote }

-- two parts, each within its own room
module _ (m n : ℕ) {x : List ℕ} {p q : Page} (room : HasRoom (m + n) p) (a : WroteWithin m p x q) where
  pub room_after : HasRoom n q
  room_after = omega (arith, a.within, a.wrote.written.next, length_after a.wrote (omega (arith, a.within)))

  pub then_within : {y : List ℕ} {r : Page} → WroteWithin n q y r → WroteWithin (m + n) p (x ++ y) r
  then_within {y = y} b =
      record { within = omega (arith, length-append x y, a.within, b.within); wrote = then a.wrote (omega (arith, a.within)) b.wrote }

-- What is put so far, and the bytes still to come: put from here they give what is to be put in all. The invariant of every loop that puts.
pub record Leads (p : Page) (rest : List ℕ) (p₀ : Page) (all : List ℕ) : Type 0 where
  pub same : p.out.ghost_name ≡ p₀.out.ghost_name
  pub leads : appending.Leads p.out.now p.at rest p₀.out.now p₀.at all

pub leads_start : (p : Page) (all : List ℕ) → Leads p all p all
leads_start p all = record { same = refl; leads = appending.leads_start p.out.now p.at all }

-- a part of what is to come is put
pub leads_on :
    {rest all x y : List ℕ} {p p₀ q : Page} → Leads p rest p₀ all → rest ≡ x ++ y → p.at + length x ≤ length p.out.now → Wrote p x q →
    Leads q y p₀ all
leads_on {y = y} g e here a = record { same = a.same ∙ g.same; leads = appending.leads_on y g.leads e here a.written }

-- all of what is to come is put
pub leads_end : {rest all : List ℕ} {p p₀ q : Page} → Leads p rest p₀ all → Wrote p rest q → Wrote p₀ all q
leads_end g a = record { same = a.same ∙ g.same; written = appending.leads_end g.leads a.written }
