-- Past 24, a look knows a description and a pixel by the kind, N, each colour's D, index and fraction, and whether the codes are within the depth: where two have
-- the same, it answers the same.
use Prim.Native.Nat.{ℕ}
use mathlib.Core.Path.{◌≡◌, refl, sym, ap₂, ◌∙◌}
use mathlib.Core.Bool.{cond}
use mathlib.Core.List.{List}
use lib.IntN.{ℤ}
use Rattle.rules.specs.Units.{raw_m, corrected_m}
use Rattle.rules.specs.Looking.Interpolation.{den_of, index_of, fraction_of, pair, path, shares_for, code_by}
use Rattle.rules.specs.Looking.{within, shown, used, rows_with, correct, look_at}
use Rattle.rules.specs.declared.Codes.{Codes}
use Rattle.rules.specs.declared.Colour.{Colour}
use Rattle.rules.specs.declared.Colour.TheVariants.{Red, Green, Blue}
use Rattle.rules.specs.declared.Depths.{Depths}
use Rattle.rules.specs.declared.Description.{Description}
use Rattle.rules.specs.declared.Kind.{Kind}
use Rattle.rules.specs.declared.Kind.TheVariants.{OneD, ThreeD}
use Rattle.rules.specs.declared.Refusal.TheVariants.{CodeTooGreat}
use Rattle.rules.proofs.Looking.Demand3.{used-shown}
use Rattle.signature.specs.OneDomain.{shares_with, shown_with, look_with}
use Rattle.signature.proofs.Looking.Undivided.{look-undivided}
use Rattle.std.specs.Prelude.{Err, Ok, Some}
use Rattle.rules.specs.Results.{look_of}

-- ---- what it is made of; m is the M of raw codes

module _ (d : Description) (m : ℕ) (pixel : Codes) where
  shares-with : (k : Kind) (c : Colour) → shares_for d m pixel k c ≡ shares_with d.n (den_of d m) (index_of d m pixel) (fraction_of d m pixel) k c
  unfolding pair path
  shares-with OneD c = refl
  shares-with ThreeD c = refl

  shown-with : (k : Kind) → shown d m pixel k ≡ shown_with d.n (den_of d m) (index_of d m pixel) (fraction_of d m pixel) k
  unfolding shown pair path
  shown-with OneD = refl
  shown-with ThreeD = refl

pub look-with : (d : Description) (table : List ℤ) (depths : Depths) (pixel : Codes) → let m = raw_m depths in
    look_at d table pixel (Some depths) ≡ look_with d.n (den_of d m) (index_of d m pixel) (fraction_of d m pixel) (within m pixel) d.kind table (corrected_m depths)
look-with d table depths pixel = look-undivided d table depths pixel ∙ made
  where
    m : ℕ
    m = raw_m depths

    shares : (c : Colour) → used d.kind c (shown d m pixel d.kind) ≡ shares_with d.n (den_of d m) (index_of d m pixel) (fraction_of d m pixel) d.kind c
    shares c = used-shown d m pixel d.kind c ∙ shares-with d m pixel d.kind c

    made : cond (within m pixel) (look_of (correct d table depths pixel) (shown d m pixel d.kind)) (Err CodeTooGreat)
        ≡ look_with d.n (den_of d m) (index_of d m pixel) (fraction_of d m pixel) (within m pixel) d.kind table (corrected_m depths)
    made i =
        let code : Colour → ℕ = λ c. code_by (corrected_m depths) (den_of d m c) table c (shares c i) in
        cond (within m pixel) (look_of (record { red = code Red; green = code Green; blue = code Blue }) (shown-with d m pixel d.kind i)) (Err CodeTooGreat)

-- ---- two that have the same

pub record SamePlaces (m : ℕ) (d e : Description) (a b : Codes) : Type 0 where
  pub kind : d.kind ≡ e.kind
  pub n : d.n ≡ e.n
  pub inside : within m a ≡ within m b
  pub dens : (c : Colour) → den_of d m c ≡ den_of e m c
  pub indices : (c : Colour) → index_of d m a c ≡ index_of e m b c
  pub fractions : (c : Colour) → fraction_of d m a c ≡ fraction_of e m b c

pub same-look : (table : List ℤ) (depths : Depths) {d e : Description} {a b : Codes} → SamePlaces (raw_m depths) d e a b
    → look_at d table a (Some depths) ≡ look_at e table b (Some depths)
same-look table depths {d} {e} {a} {b} s =
    look-with d table depths a
    ∙ (λ i. look_with (s.n i) (λ c. s.dens c i) (λ c. s.indices c i) (λ c. s.fractions c i) (s.inside i) (s.kind i) table (corrected_m depths))
    ∙ sym (look-with e table depths b)

-- and so does its first half
pub same_rows : {m : ℕ} {d e : Description} {a b : Codes} → SamePlaces m d e a b → rows_with d m a ≡ rows_with e m b
unfolding rows_with
same_rows {m} {d} {e} {a} {b} s = ap₂ (λ inside shares. cond inside (Ok shares) (Err CodeTooGreat)) s.inside same-shown
  where
    same-shown : shown d m a d.kind ≡ shown e m b e.kind
    same-shown =
        shown-with d m a d.kind
        ∙ (λ i. shown_with (s.n i) (λ c. s.dens c i) (λ c. s.indices c i) (λ c. s.fractions c i) (s.kind i))
        ∙ sym (shown-with e m b e.kind)
