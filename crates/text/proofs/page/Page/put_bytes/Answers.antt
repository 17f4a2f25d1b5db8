-- `text::page::Page::put_bytes` meets its contract: the bytes where they fit, and nothing where they do not.
use Rattle.std.proofs.Common.{ℕ, ◌≡◌, refl, List, ◌++◌, length, take, drop, append_assoc, drop-drop, arith}
use Rattle.text.specs.Written.{written}
use Rattle.text.specs.Paging.{put_there, put_nowhere}
use Rattle.text.proofs.page.Page.put_bytes.Goals as goal

pub returns-in_default : goal.returns-in_default
returns-in_default c = put_nowhere (omega (arith, c.in_default.ensures))

pub returns-then-room-bytes : goal.returns-then-room-bytes
returns-then-room-bytes c = put_nowhere (omega (arith, c.in-Some.ensures))

-- a part copied over is these bytes written
copied : (l : List ℕ) (p k : ℕ) (x y : List ℕ) → k ≡ length x → y ≡ x → take p l ++ (y ++ drop k (drop p l)) ≡ written l p x
unfolding written
copied l p k x y long same = rw (same, long, drop-drop, append_assoc)

pub returns : goal.returns
returns c = put_there (omega (arith, c.in-Some.ensures)) (record {
  same = refl;
  written = record {
    next = refl;
    buffer = copied c.args.self.now.out.now c.args.self.now.at _ c.args.bytes.now _ (omega arith) c.copy_from_slice.ensures.after;
  };
})
