-- What crosses the C boundary fits the numbers that it crosses in: N, a title's place and length 63 bits, a row 32.
use Prim.Native.Nat.{ℕ, ◌≤◌, ◌<◌}
use mathlib.Core.Path.{◌≡◌, refl, subst}
use mathlib.Core.Logic.{◌⊎◌, inl, inr}
use mathlib.Core.Bool.{Bool, true, false, cond}
use mathlib.Core.List.{List, [], ◌∷◌, map}
use native.Mathlib.Omega.{arith}
use lib.IntN.{ℤ}
use lib.ListN.{length}
use Rattle.rules.specs.Units.{greatest_n, row_limit, depth_of, depths_of, raw_m}
use Rattle.rules.specs.Descriptions.{no_title, rows, could_be_read}
use Rattle.rules.specs.Reading.{read}
use Rattle.rules.specs.Looking.{within, shown, used, rows_with, rows_at, first_half, look_by, look_at, look}
use Rattle.rules.specs.Looking.Interpolation.{pair, path, pair_by, path_by, climb}
use Rattle.rules.specs.Answers.{read_description, look_rows, first_rows, shares_of}
use Rattle.rules.specs.Demands.{Titled, Each}
use Rattle.rules.specs.Boundary.{Crossable, RowsFit, first_in, look_in}
use Rattle.rules.specs.declared.Bits.{Bits}
use Rattle.rules.specs.declared.Codes.{Codes}
use Rattle.rules.specs.declared.Colour.{Colour}
use Rattle.rules.specs.declared.Colour.TheVariants.{Red, Green, Blue}
use Rattle.rules.specs.declared.Description.{Description}
use Rattle.rules.specs.declared.Depths.{Depths}
use Rattle.rules.specs.declared.Kind.{Kind}
use Rattle.rules.specs.declared.Kind.TheVariants.{OneD, ThreeD}
use Rattle.rules.specs.declared.Refusal.TheVariants.{CodeTooGreat, CouldNotBeRead}
use Rattle.rules.specs.declared.Share.{Share}
use Rattle.rules.specs.declared.Title.{Title}
use Rattle.rules.proofs.Boundary.Described.{called-each}
use Rattle.rules.proofs.Reading.Acceptance.{accepted-keeps}
use Rattle.rules.proofs.Reading.Bridge.{accepted-in-range}
use Rattle.rules.proofs.Looking.Demand3.{rule-weighable}
use Rattle.rules.proofs.KnownDepths.{depth-bounds, depths-bounds}
use Rattle.rules.proofs.Sound.{range-most, rows-most, sound-of}
use Rattle.rules.proofs.Reading.Titles.{title-or-none, titled-inside}
use Rattle.std.specs.Prelude.{Err, None, Ok, Option, Some}
use Rattle.rules.specs.declared.Depth.{Depth}
use Rattle.rules.specs.Results.{FirstHalf, Read}

-- ---- a description

module _ (file : List ℕ) (places : ℕ) (held : length file < 9_223_372_036_854_775_808) where
  title-fits : (t : Title) → (t ≡ no_title) ⊎ Titled file t → (t.place < 9_223_372_036_854_775_808) × (t.length < 9_223_372_036_854_775_808)
  title-fits t (inl e) = rw e (omega arith, omega arith)
  title-fits t (inr h) = let inside = titled-inside file t h in (omega (arith, inside, held), omega (arith, inside, held))

  accepted-fits : (d : Description) → read file places ≡ Ok d → Crossable d
  accepted-fits d e =
      let t = title-fits d.title (title-or-none file places d _ (accepted-keeps file places d e)) in
      record { size = small d.kind (range-most d.kind d.n (accepted-in-range file places d e)); place = t.0; span = t.1 }
    where
      small : (k : Kind) → d.n ≤ greatest_n k → d.n < 9_223_372_036_854_775_808
      small OneD h = omega arith
      small ThreeD h = omega arith

  -- whatever reading describes, of a file that a machine can hold
  pub description-fits : Crossable (read_description (read file places))
  description-fits = by (read file places) refl
    where
      by : (r : Read) → read file places ≡ r → Crossable (read_description r)
      by (Ok d) e = accepted-fits d e
      by (Err x) e = record { size = omega arith; place = omega arith; span = omega arith }

-- ---- rows

all-six : {a b c d e f : ℕ} → a < 4_294_967_296 → b < 4_294_967_296 → c < 4_294_967_296 → d < 4_294_967_296 → e < 4_294_967_296 → f < 4_294_967_296
    → RowsFit (a ∷ b ∷ c ∷ d ∷ e ∷ f ∷ [])
unfolding RowsFit
all-six a b c d e f = (a, (b, (c, (d, (e, (f, tt))))))

-- the zeros of a refusal
zeros-fit : RowsFit (0 ∷ 0 ∷ 0 ∷ 0 ∷ 0 ∷ 0 ∷ [])
zeros-fit = all-six (omega arith) (omega arith) (omega arith) (omega arith) (omega arith) (omega arith)

module _ (d : Description) (table : List ℤ) (m : ℕ) (pixel : Codes) (could : could_be_read d table ≡ true) (deep : 0 < m) where
  few : rows d ≤ row_limit
  few = rows-most d.kind d.n (sound-of d table could).most

  inside : (k : Kind) → d.kind ≡ k → (c : Colour) → Each (λ x. x.row < rows d) (used k c (shown d m pixel k))
  inside k e c = subst (λ (j : Kind). Each (λ x. x.row < rows d) (used j c (shown d m pixel j))) e (rule-weighable d table m pixel could deep c).in_table

  shown-fit : (k : Kind) → d.kind ≡ k → RowsFit (map (λ (s : Share). s.row) (shares_of (shown d m pixel k)))
  unfolding shown pair path pair_by path_by climb
  shown-fit OneD e =
      let r = inside OneD e Red in
      let g = inside OneD e Green in
      let b = inside OneD e Blue in
      all-six (omega (arith, few, r.0)) (omega (arith, few, r.1.0)) (omega (arith, few, g.0)) (omega (arith, few, g.1.0)) (omega (arith, few, b.0)) (omega (arith, few, b.1.0))
  shown-fit ThreeD e =
      let r = inside ThreeD e Red in
      all-six (omega (arith, few, r.0)) (omega (arith, few, r.1.0)) (omega (arith, few, r.1.1.0)) (omega (arith, few, r.1.1.1.0)) (omega arith) (omega arith)

  with-fit : RowsFit (first_rows (rows_with d m pixel))
  unfolding rows_with
  with-fit = by (within m pixel)
    where
      by : (t : Bool) → RowsFit (first_rows (cond t (Ok (shown d m pixel d.kind)) (Err CodeTooGreat)))
      by true = shown-fit d.kind refl
      by false = zeros-fit

-- whatever the first half finds
pub first-rows-fit : (table : List ℤ) (raw : ℕ) (pixel : Codes) (d : Description) → RowsFit (first_rows (first_half d table raw pixel))
unfolding first_half
first-rows-fit table raw pixel d = by (could_be_read d table) refl
  where
    deep-by : could_be_read d table ≡ true → (f : Option Depth) → depth_of raw ≡ f → RowsFit (first_rows (rows_at d pixel f))
    deep-by could None e = zeros-fit
    deep-by could (Some depth) e = with-fit d table depth.greatest pixel could (depth-bounds raw depth e).0

    by : (t : Bool) → could_be_read d table ≡ t → RowsFit (first_rows (cond t (rows_at d pixel (depth_of raw)) (Err CouldNotBeRead)))
    by true could = deep-by could (depth_of raw) refl
    by false e = zeros-fit

-- whatever look shows
pub rows_fit : (table : List ℤ) (bits : Bits) (pixel : Codes) (d : Description) → RowsFit (look_rows (look d table bits pixel))
unfolding look look_at
rows_fit table bits pixel d = by (could_be_read d table) refl
  where
    look-by : (depths : Depths) (f : FirstHalf) → RowsFit (first_rows f) → RowsFit (look_rows (look_by d table depths f))
    look-by depths (Ok shares) h = h
    look-by depths (Err r) h = h

    deep-by : could_be_read d table ≡ true → (f : Option Depths) → depths_of bits ≡ f → RowsFit (look_rows (look_at d table pixel f))
    deep-by could None e = zeros-fit
    deep-by could (Some depths) e =
        look-by depths (rows_with d (raw_m depths) pixel) (with-fit d table (raw_m depths) pixel could (depths-bounds bits depths e).0.0)

    by : (t : Bool) → could_be_read d table ≡ t → RowsFit (look_rows (cond t (look_at d table pixel (depths_of bits)) (Err CouldNotBeRead)))
    by true could = deep-by could (depths_of bits) refl
    by false e = zeros-fit

-- of eleven numbers too
pub first-rows-fit-in : (eleven table : List ℤ) (raw : ℕ) (pixel : Codes) → RowsFit (first_rows (first_in eleven table raw pixel))
first-rows-fit-in eleven table raw pixel = called-each (λ a. RowsFit (first_rows a)) zeros-fit (first-rows-fit table raw pixel) eleven

pub rows-fit-in : (eleven table : List ℤ) (bits : Bits) (pixel : Codes) → RowsFit (look_rows (look_in eleven table bits pixel))
rows-fit-in eleven table bits pixel = called-each (λ a. RowsFit (look_rows a)) zeros-fit (rows_fit table bits pixel) eleven
