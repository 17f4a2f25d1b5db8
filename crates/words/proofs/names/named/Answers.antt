-- `named` meets its contract: a word of six or seven given bytes is the list of them.
use Rattle.std.proofs.Common.{rules, ◌≡◌, ℕ, arith, length, get_or, List, [], ◌∷◌, refl}
use Rattle.basics.specs.Ascii.{ascii}
use Rattle.words.specs.Names.{same_bytes, named_of, if_named}
use Rattle.words.proofs.names.named.Goals as goal

six : (w : List ℕ) (a b c d e f : ℕ) → length w ≡ 6 → get_or w 0 0 ≡ a → get_or w 1 0 ≡ b → get_or w 2 0 ≡ c → get_or w 3 0 ≡ d → get_or w 4 0 ≡ e → get_or w 5 0 ≡ f → w ≡ a ∷ b ∷ c ∷ d ∷ e ∷ f ∷ []
six (p ∷ q ∷ r ∷ s ∷ t ∷ u ∷ []) a b c d e f n g h i j k l = cc
six w a b c d e f n g h i j k l = absurd (omega arith)

seven : (w : List ℕ) (a b c d e f g : ℕ) → length w ≡ 7 → get_or w 0 0 ≡ a → get_or w 1 0 ≡ b → get_or w 2 0 ≡ c → get_or w 3 0 ≡ d → get_or w 4 0 ≡ e → get_or w 5 0 ≡ f → get_or w 6 0 ≡ g → w ≡ a ∷ b ∷ c ∷ d ∷ e ∷ f ∷ g ∷ []
seven (p ∷ q ∷ r ∷ s ∷ t ∷ u ∷ v ∷ []) a b c d e f g n h i j k l m o = cc
seven w a b c d e f g n h i j k l m o = absurd (omega arith)

pub returns-in-retire : goal.returns-in-retire
unfolding named_of same_bytes ascii if_named
returns-in-retire c =
    rw (six c.args.word.now 114 101 116 105 114 101 (omega arith) (search rules) (search rules) (search rules) (search rules) (search rules) (search rules)) refl

pub returns-in-protect : goal.returns-in-protect
unfolding named_of same_bytes ascii if_named
returns-in-protect c =
    rw (seven c.args.word.now 112 114 111 116 101 99 116 (omega arith) (search rules) (search rules) (search rules) (search rules) (search rules) (search rules) (search rules)) refl
