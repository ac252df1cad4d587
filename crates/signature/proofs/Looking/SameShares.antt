-- Past 20, the second half of a look knows a description by the count of rows and each colour's D, and six rows and weights by those that the kind uses: where two
-- have the same, it answers the same.
use Prim.Native.Nat.{ℕ}
use mathlib.Core.Path.{◌≡◌, refl, ap, ◌∙◌}
use mathlib.Core.Bool.{cond}
use mathlib.Core.List.{List}
use lib.IntN.{ℤ}
use Rattle.rules.specs.Units.{depths_of, raw_m, corrected_m}
use Rattle.rules.specs.Descriptions.{rows, could_be_read}
use Rattle.rules.specs.Looking.Interpolation.{den_of, code_by}
use Rattle.rules.specs.Looking.Judging.{◌and_then◌, judged}
use Rattle.rules.specs.Looking.{used, code_of, codes_by, judged_for, judged_all, codes_if, codes_at, second_half}
use Rattle.rules.specs.declared.Bits.{Bits}
use Rattle.rules.specs.declared.Colour.{Colour}
use Rattle.rules.specs.declared.Colour.TheVariants.{Red, Green, Blue}
use Rattle.rules.specs.declared.Depths.{Depths}
use Rattle.rules.specs.declared.Description.{Description}
use Rattle.rules.specs.declared.Kind.{Kind}
use Rattle.rules.specs.declared.Refusal.TheVariants.{CouldNotBeRead}
use Rattle.rules.specs.declared.Shares.{Shares}
use Rattle.std.specs.Prelude.{Err, None, Ok, Option, Some}
use Rattle.rules.specs.declared.Misfit.TheVariants.{NegativeWeight, RowBeyond, WrongSum}
use Rattle.rules.specs.Results.{Judged}

-- ---- where the codes are the same, or need not be

-- of two descriptions, two tables and two sixes that fit
pub same_if : (d e : Description) (table other : List ℤ) (depths : Depths) (s t : Shares) (j : Judged)
    → (j ≡ (Ok tt) → codes_by d table depths s ≡ codes_by e other depths t) → codes_if d table depths s j ≡ codes_if e other depths t j
same_if d e table other depths s t (Ok _) same = ap Ok (same refl)
same_if d e table other depths s t (Err RowBeyond) same = refl
same_if d e table other depths s t (Err NegativeWeight) same = refl
same_if d e table other depths s t (Err WrongSum) same = refl

-- ---- two that have the same; m is the M of raw codes

pub record SameWeighing (m : ℕ) (d e : Description) (s t : Shares) : Type 0 where
  pub count : rows d ≡ rows e
  pub dens : (c : Colour) → den_of d m c ≡ den_of e m c
  pub shares : (c : Colour) → used d.kind c s ≡ used e.kind c t

pub same-judged : {m : ℕ} {d e : Description} {s t : Shares} → SameWeighing m d e s t → judged_all d m s ≡ judged_all e m t
unfolding judged_all
same-judged {m} {d} {e} {s} {t} w i =
    let each : (c : Colour) → judged_for d m s c ≡ judged_for e m t c = λ c i. judged (w.count i) (w.dens c i) (w.shares c i) in
    each Red i and_then each Green i and_then each Blue i

pub same_codes : (table : List ℤ) (depths : Depths) {d e : Description} {s t : Shares} → SameWeighing (raw_m depths) d e s t
    → codes_by d table depths s ≡ codes_by e table depths t
same_codes table depths {d} {e} {s} {t} w i =
    let each : (c : Colour) → code_of d table depths s c ≡ code_of e table depths t c = λ c i. code_by (corrected_m depths) (w.dens c i) table c (w.shares c i) in
    record { red = each Red i; green = each Green i; blue = each Blue i }

-- the same past 24
pub same-given : (table : List ℤ) {d e : Description} {s t : Shares} → ((m : ℕ) → SameWeighing m d e s t) → (x : Option Depths) → codes_at d table s x ≡ codes_at e table t x
same-given table w None = refl
same-given table {d} {e} {s} {t} w (Some depths) =
    let at = w (raw_m depths) in
    same_if d e table table depths s t (judged_all d (raw_m depths) s) (λ fit. same_codes table depths at) ∙ ap (codes_if e table depths t) (same-judged at)

-- ---- sixes that have the same in every place that a kind uses

pub record SameShares (k : Kind) (s t : Shares) : Type 0 where
  pub each : (c : Colour) → used k c s ≡ used k c t

pub same_second : (d : Description) (table : List ℤ) (bits : Bits) {s t : Shares} → SameShares d.kind s t → second_half d table bits s ≡ second_half d table bits t
unfolding second_half
same_second d table bits same =
    ap (λ x. cond (could_be_read d table) x (Err CouldNotBeRead))
    (same-given table (λ m. record { count = refl; dens = λ c. refl; shares = same.each }) (depths_of bits))
