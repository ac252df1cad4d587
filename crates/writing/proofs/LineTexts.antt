-- One row more is its line after those of the rows before; bounds in the units of samples have the same text; and what 24 and 27 tried is what the head asks.
use Prim.Native.Nat.{ℕ, suc, ◌+◌, ◌-◌, ◌*◌, ◌<◌}
use mathlib.Core.Path.{◌≡◌, refl, sym, ap, ap₂, ◌∙◌}
use mathlib.Core.Bool.{true}
use mathlib.Core.List.{List, [], ◌∷◌, ◌++◌, append-nil, append_assoc}
use native.Mathlib.Nat.{mul_assoc}
use native.Mathlib.Omega.{arith}
use borrow.Author.Tests.{le-leb}
use lib.IntN.{ℤ, pos, nat_abs, ◌*ℤ◌}
use lib.ListN.{length, take, drop, get_or}
use lib.Seq.{take-add, drop-cons, length-take-le}
use Rattle.whole.proofs.Halves.{product-abs}
use Rattle.rules.specs.Units.{sample_places, bound_places}
use Rattle.rules.specs.Decimals.{decimals_of}
use Rattle.rules.specs.Fields.{parted}
use Rattle.rules.specs.Descriptions.{could_be_read}
use Rattle.rules.specs.Reading.Items.{named}
use Rattle.rules.specs.Writing.{bounds_text, row_text, rows_text, title_fits}
use Rattle.rules.specs.declared.Bounds.{Bounds}
use Rattle.rules.specs.declared.Colour.TheVariants.{Red, Green, Blue}
use Rattle.rules.specs.declared.Description.{Description}
use Rattle.rules.specs.declared.Keyword.{Keyword}
use Rattle.rules.proofs.Tests.{both-and}
use Rattle.rules.proofs.Decimals.{decimals-tenfold, sign-times}
use Rattle.rules.proofs.Sound.{sound-of}
use Rattle.writing.specs.Rows.{Headed, finer, row_at, text_of}

-- ---- one row more

-- after whole rows
row_last : (n : ℕ) (xs : List ℤ) (r g b : ℤ) → length xs ≡ 3 * n → rows_text (xs ++ (r ∷ g ∷ b ∷ [])) ≡ rows_text xs ++ row_text r g b
unfolding rows_text
row_last n [] r g b e = append-nil (row_text r g b)
row_last n (x ∷ []) r g b e = absurd (omega arith)
row_last n (x ∷ y ∷ []) r g b e = absurd (omega arith)
row_last n (x ∷ y ∷ z ∷ xs) r g b e =
    ap (λ t. row_text x y z ++ t) (row_last (n - 1) xs r g b (omega arith)) ∙ sym (append_assoc (row_text x y z) (rows_text xs) (row_text r g b))

-- the next three numbers
next-three : (table : List ℤ) (at : ℕ) → at + 2 < length table
    → take 3 (drop at table) ≡ get_or table at (pos 0) ∷ get_or table (at + 1) (pos 0) ∷ get_or table (at + 2) (pos 0) ∷ []
next-three table at h =
    let one : suc at ≡ at + 1 = omega arith in
    let two : suc (suc at) ≡ at + 2 = omega arith in
    rw (drop-cons table at (pos 0) (omega arith), drop-cons table (suc at) (pos 0) (omega arith), drop-cons table (suc (suc at)) (pos 0) (omega arith))
    (ap₂ (λ m n. get_or table at (pos 0) ∷ get_or table m (pos 0) ∷ get_or table n (pos 0) ∷ []) one two)

pub rows_more : (table : List ℤ) (n : ℕ) → 3 * n + 2 < length table
    → rows_text (take (3 * (n + 1)) table) ≡ rows_text (take (3 * n) table) ++ text_of (row_at table n)
rows_more table n h =
    let places : 3 * (n + 1) ≡ 3 * n + 3 = omega arith in
    ap (λ m. rows_text (take m table)) places
    ∙ ap rows_text (take-add (3 * n) 3 table ∙ ap (λ xs. take (3 * n) table ++ xs) (next-three table (3 * n) h))
    ∙ row_last n (take (3 * n) table) _ _ _ (length-take-le (3 * n) table (omega arith))

-- ---- bounds

-- ten times as many of a unit that is a tenth
tenfold : (places a b : ℕ) (z : ℤ) → suc a ≡ suc b * 10 → decimals_of (suc places) (z *ℤ pos (suc a)) ≡ decimals_of places (z *ℤ pos (suc b))
tenfold places a b z e =
    decimals-tenfold places (z *ℤ pos (suc a)) (z *ℤ pos (suc b)) (sign-times z a ∙ sym (sign-times z b))
    (product-abs z (pos (suc a)) ∙ ap (λ m. nat_abs z * m) e ∙ sym (mul_assoc (nat_abs z) (suc b) 10) ∙ ap (λ m. m * 10) (sym (product-abs z (pos (suc b)))))

finer-text : (z : ℤ) → decimals_of sample_places (z *ℤ pos 10_000) ≡ decimals_of bound_places z
finer-text z =
    tenfold 6 9_999 999 z refl
    ∙ tenfold 5 999 99 z refl
    ∙ tenfold 4 99 9 z refl
    ∙ decimals-tenfold bound_places (z *ℤ pos 10) z (sign-times z 9) (product-abs z (pos 10))

pub bounds-text : (k : Keyword) (b : Bounds) → bounds_text k b ≡ named k ++ (32 ∷ text_of (finer b))
unfolding bounds_text row_text parted
bounds-text k b = rw (finer-text b.red.0, finer-text b.green.0, finer-text b.blue.0)

-- ---- 24 and 27

pub headed : (d : Description) (table : List ℤ) (title : List ℕ) → could_be_read d table ≡ true → title_fits d.title.there title ≡ true → Headed d title
headed d table title could fits =
    let sound = sound-of d table could in
    let within = sound.domains in
    record {
      range = both-and _ _ (le-leb _ _ sound.least) (le-leb _ _ sound.most);
      lower = record { red = (within Red).low; green = (within Green).low; blue = (within Blue).low };
      upper = record { red = (within Red).high; green = (within Green).high; blue = (within Blue).high };
      titled = fits;
    }
