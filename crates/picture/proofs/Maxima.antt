-- Codes are all at most m exactly if the greatest of those passed is, and all those to come are: so one number stands for all that are passed.
use Prim.Native.Nat.{ℕ, ◌+◌, ◌≤◌, ◌<◌, max}
use mathlib.Core.Path.{◌≡◌, sym, ap, ◌∙◌}
use mathlib.Core.Bool.{◌&&◌, and-true, and_assoc}
use mathlib.Core.List.{List}
use native.Mathlib.Numerals.{add-one}
use lib.Dec.{leb, leb-zero}
use lib.ListN.{length, drop, get_or, drop_of_length-le}
use lib.Seq.{drop-cons}
use Rattle.rules.specs.Reading.Lines.{every}
use Rattle.rules.proofs.Picturing.Checks.{within_all}
use Rattle.judge.proofs.Spans.{leb-max}

-- the greatest of the first i codes, `most`, stands for them
abbrev pub StandsFor : List ℕ → ℕ → ℕ → Type 0
StandsFor codes i most = (m : ℕ) → within_all m codes ≡ leb most m && within_all m (drop i codes)

pub none_passed : (codes : List ℕ) → StandsFor codes 0 0
none_passed codes m = rw leb-zero

-- one code more
pub one_more : (codes : List ℕ) (i most : ℕ) → i < length codes → StandsFor codes i most → StandsFor codes (i + 1) (max most (get_or codes i 0))
unfolding every
one_more codes i most h s m =
    let c = get_or codes i 0 in
    s m
    ∙ ap (λ l. leb most m && within_all m l) (drop-cons codes i 0 h)
    ∙ sym (and_assoc (leb most m) (leb c m) _)
    ∙ rw (add-one, leb-max most c m)

-- none to come
pub all-passed : (codes : List ℕ) (i most : ℕ) → length codes ≤ i → StandsFor codes i most → (m : ℕ) → leb most m ≡ within_all m codes
unfolding every
all-passed codes i most h s m = sym (s m ∙ ap (λ l. leb most m && within_all m l) (drop_of_length-le codes h) ∙ and-true (leb most m))
