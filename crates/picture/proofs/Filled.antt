-- The output while it is filled, by any function from pixel to codes: what it makes of the pixels passed stands in front of what was there. A pixel
-- more is three codes more.
use Prim.Native.Nat.{ℕ, suc, ◌+◌, ◌%◌, ◌≤◌, ◌<◌}
use mathlib.Core.Path.{◌≡◌, refl, sym, ap, subst, ◌∙◌}
use mathlib.Core.Bool.{true}
use mathlib.Core.List.{List, [], ◌∷◌, ◌++◌}
use native.Mathlib.Omega.{arith}
use borrow.Author.Tests.{leb-true}
use lib.Dec.{leb}
use lib.ListN.{length, take, drop, get_or}
use lib.Seq.{drop-cons, take-add, take_all, length-take-le}
use Rattle.rules.specs.Answers.{codes_of}
use Rattle.rules.specs.Reading.Lines.{every}
use Rattle.rules.specs.Picturing.{pixel_of, each_pixel}
use Rattle.rules.specs.Memory.{spliced}
use Rattle.rules.specs.declared.Codes.{Codes}
use Rattle.rules.proofs.Memory.{splice-none, splice_front, splice-length, splice-both}
use Rattle.rules.proofs.Picturing.Checks.{every-at, each-length}
use Rattle.picture.specs.Filling.{pixel_from, Fillable, Inside}
use Rattle.picture.specs.Blocks.{Filled}

-- ---- pixels, and more pixels

each_append : (f : Codes → Codes) (a b : List ℕ) → length a % 3 ≡ 0 → each_pixel f (a ++ b) ≡ each_pixel f a ++ each_pixel f b
unfolding each_pixel
each_append f [] b h = refl
each_append f (r ∷ []) b h = absurd (omega arith)
each_append f (r ∷ g ∷ []) b h = absurd (omega arith)
each_append f (r ∷ g ∷ q ∷ rest) b h = ap (λ l. codes_of (f (pixel_of r g q)) ++ l) (each_append f rest b (omega arith))

three-from : (l : List ℕ) (i : ℕ) → i + 2 < length l → take 3 (drop i l) ≡ get_or l i 0 ∷ get_or l (i + 1) 0 ∷ get_or l (i + 2) 0 ∷ []
three-from l i h =
    let one : i + 1 ≡ suc i = omega arith in
    let two : i + 2 ≡ suc (suc i) = omega arith in
    rw (one, two, drop-cons l i 0 (omega arith), drop-cons l (suc i) 0 (omega arith), drop-cons l (suc (suc i)) 0 (omega arith))

-- a pixel that begins in the picture ends in it
pub whole-pixel : {src : List ℕ} {places : ℕ} → Fillable src places → (i : ℕ) → i % 3 ≡ 0 → i < length src → i + 2 < length src
whole-pixel s i z h = omega (arith, s.whole)

-- no code is above the raw M
pub inside-so : (m : ℕ) (src : List ℕ) → every (λ c. leb c m) src ≡ true → {raw : ℕ} → raw ≡ m → Inside raw src
inside-so m src all e = record { inside = λ k h. subst (λ x. get_or src k 0 ≤ x) (sym e) (leb-true (get_or src k 0) m (every-at (λ c. leb c m) src all k h)) }

-- ---- pixel by pixel

pub none_filled : (f : Codes → Codes) (src dst : List ℕ) → Filled f src dst 0 dst
unfolding each_pixel
none_filled f src dst = record { reached = omega arith; whole = refl; is = sym (splice-none dst 0) }

module _ {f : Codes → Codes} {src dst : List ℕ} {i : ℕ} {dst' : List ℕ} (s : Fillable src (length dst)) (filled : Filled f src dst i dst') where
  abbrev made : List ℕ
  made = each_pixel f (take i src)

  taken : length (take i src) ≡ i
  taken = length-take-le i src filled.reached

  made-length : length made ≡ i
  made-length = each-length f (take i src) (omega (arith, taken, filled.whole)) ∙ taken

  fits : 0 + length made ≤ length dst
  fits = omega (arith, made-length, filled.reached, s.room)

  pub same_length : length dst' ≡ length dst
  same_length = ap length filled.is ∙ splice-length dst 0 made fits

  pub room-here : i < length src → i + 2 < length dst'
  room-here h = omega (arith, same_length, whole-pixel s i filled.whole h, s.room)

  next-made : i < length src → each_pixel f (take (i + 3) src) ≡ made ++ codes_of (f (pixel_from src i))
  unfolding each_pixel
  next-made h =
      ap (each_pixel f) (take-add i 3 src ∙ ap (λ l. take i src ++ l) (three-from src i (whole-pixel s i filled.whole h)))
      ∙ each_append f (take i src) _ (omega (arith, taken, filled.whole))

  -- one pixel more: read, made and written
  pub one-filled : i < length src → {pixel codes : Codes} {dst'' : List ℕ} → pixel ≡ pixel_from src i → codes ≡ f pixel → dst'' ≡ spliced dst' i (codes_of codes)
      → Filled f src dst (i + 3) dst''
  one-filled h read new wrote =
      let pixel = pixel_from src i in
      let here : i ≡ 0 + length made = omega (arith, made-length) in
      record {
        reached = omega (arith, whole-pixel s i filled.whole h);
        whole = omega (arith, filled.whole);
        is =
            wrote
            ∙ ap (λ c. spliced dst' i (codes_of c)) (new ∙ ap f read)
            ∙ ap (λ l. spliced l i (codes_of (f pixel))) filled.is
            ∙ ap (λ n. spliced (spliced dst 0 made) n (codes_of (f pixel))) here
            ∙ splice-both dst 0 made (codes_of (f pixel)) fits
            ∙ ap (spliced dst 0) (sym (next-made h));
      }

  pub all-filled : length src ≤ i → dst' ≡ each_pixel f src ++ drop (length src) dst
  all-filled h =
      filled.is
      ∙ ap (λ l. spliced dst 0 (each_pixel f l)) (take_all i src h)
      ∙ splice_front dst (each_pixel f src)
      ∙ ap (λ n. each_pixel f src ++ drop n dst) (each-length f src s.whole)
