-- Demand 3 of the second half (document 02, Req 09): whatever rows and weights it accepts, whoever wrote them, its codes are right: nearest to the exact value of
-- these rows and weights, and between the codes of the rows that carry weight.
use Prim.Native.Nat.{ℕ, zero, suc, ◌≤◌, ◌<◌}
use mathlib.Core.Path.{◌≡◌, refl, sym, ap, subst, ◌∙◌}
use mathlib.Core.List.{List}
use native.Mathlib.Decide.{dec_le}
use native.Mathlib.Omega.{arith}
use lib.IntN.{ℤ, pos, ◌*ℤ◌}
use Rattle.whole.specs.Nearest.{Nearest}
use Rattle.rules.specs.Units.{depths_of, raw_m, corrected_m, code_in}
use Rattle.rules.specs.Looking.Interpolation.{den_of, denominator, total, row_code}
use Rattle.rules.specs.Looking.{used, codes_by, second_half}
use Rattle.rules.specs.Answers.{second_number}
use Rattle.rules.specs.Promises.{GivesCodes}
use Rattle.rules.specs.Demands.{Carried, CodesRight}
use Rattle.rules.specs.declared.Bits.{Bits}
use Rattle.rules.specs.declared.Codes.{Codes}
use Rattle.rules.specs.declared.Colour.{Colour}
use Rattle.rules.specs.declared.Depths.{Depths}
use Rattle.rules.specs.declared.Description.{Description}
use Rattle.rules.specs.declared.Share.{Share}
use Rattle.rules.specs.declared.Shares.{Shares}
use Rattle.rules.proofs.Answers.{refused-not-0, gives-is}
use Rattle.rules.proofs.KnownDepths.{depths-one, depths-bounds}
use Rattle.rules.proofs.Looking.Demand3.{codes-right}
use Rattle.rules.proofs.Looking.Halves.{second-0}
use Rattle.rules.proofs.Looking.Judging.{weighable-all}
use Rattle.signature.proofs.Looking.SomeCarried.{SomeCarried, carried-so, some-carried}
use Rattle.signature.proofs.Looking.HalvesNumbers.{Judged0, second-0-exactly}
use Rattle.std.specs.Prelude.{Err, Ok, Some}
use Rattle.rules.specs.Results.{SecondHalf}

-- accepted rows and weights: the depths are known, and the code of each colour is right
pub record SecondRight (d : Description) (table : List ℤ) (bits : Bits) (shares : Shares) (codes : Codes) : Type 0 where
  pub depths : Depths
  pub known : depths_of bits ≡ Some depths
  pub all_right : (c : Colour) → CodesRight d table depths shares codes c

-- ---- of the definition

module _ (d : Description) (table : List ℤ) (bits : Bits) (shares : Shares) (codes : Codes) (accepted : second_half d table bits shares ≡ Ok codes) where
  -- the codes of rows and weights that the second half accepts are right
  pub second-right : SecondRight d table bits shares codes
  second-right = record { depths = depths; known = j.known; all_right = λ c. subst (λ x. CodesRight d table depths shares x c) codes_so (right c) }
    where
      j : Judged0 d table bits shares
      j = (second-0-exactly d table bits shares).0 (ap second_number accepted)

      depths : Depths
      depths = j.depths

      right : (c : Colour) → CodesRight d table depths shares (codes_by d table depths shares) c
      right c = codes-right d table depths shares j.readable (depths-bounds bits depths j.known).0.0 c (j.fit c)

      codes_so : codes_by d table depths shares ≡ codes
      codes_so =
          let e = sym (second-0 d table bits shares depths j.readable j.known (weighable-all d (raw_m depths) shares j.fit)) ∙ accepted in
          cc

  module _ (depths : Depths) (known : depths_of bits ≡ Some depths) (c : Colour) where
    -- at the depths that were asked for
    right-at : CodesRight d table depths shares codes c
    right-at =
        let r = second-right in
        subst (λ x. CodesRight d table x shares codes c) (depths-one bits r.depths depths r.known known) (r.all_right c)

    -- the code of a row by itself
    abbrev code_of_row : Share → ℕ
    code_of_row x = row_code (corrected_m depths) (den_of d (raw_m depths) c) table c x.row

    -- a code lies between the least and the greatest code of the rows whose weight is above 0: a number that none of these is above it is not above, and one that
    -- none of these is below it is not below
    pub second-between : (a : ℕ)
        → (Carried (λ x. code_of_row x ≤ a) (used d.kind c shares) → code_in codes c ≤ a) × (Carried (λ x. a ≤ code_of_row x) (used d.kind c shares) → a ≤ code_in codes c)
    second-between a = (right-at.below a, right-at.above a)

    -- so one of the rows that carry weight has no greater code, and one has no smaller
    pub second-amid : let ss = used d.kind c shares in SomeCarried (λ x. code_of_row x ≤ code_in codes c) ss × SomeCarried (λ x. code_in codes c ≤ code_of_row x) ss
    second-amid = (some-carried (λ x. dec_le (code_of_row x) code) (λ x n. omega arith) ss lower, some-carried (λ x. dec_le code (code_of_row x)) (λ x n. omega arith) ss upper)
      where
        code : ℕ
        code = code_in codes c

        ss : List Share
        ss = used d.kind c shares

        lower : Carried (λ x. suc code ≤ code_of_row x) ss → ⊥
        lower all = omega (arith, (second-between (suc code)).1 all)

        upper : Carried (λ x. code_of_row x < code) ss → ⊥
        upper all = by code refl all
          where
            by : (k : ℕ) → code ≡ k → Carried (λ x. code_of_row x < k) ss → ⊥
            by zero e all = omega (arith, e, (second-between 1).1 (carried-so (λ x below. absurd (omega (arith, below))) ss all))
            by (suc k) e all = omega (arith, e, (second-between k).0 (carried-so (λ x below. omega (arith, below)) ss all))

    -- no code is nearer to the exact value of these rows and weights, and of equally near ones this is the greatest
    pub second-nearest : Nearest (pos (corrected_m depths) *ℤ total table c (used d.kind c shares)) (denominator (den_of d (raw_m depths) c)) (corrected_m depths) (code_in codes c)
    second-nearest = rw right-at.shown right-at.nearest

-- ---- of every answer that meets the promise and is accepted

-- its codes are right
pub record GivenRight (d : Description) (table : List ℤ) (bits : Bits) (shares : Shares) (r : SecondHalf) : Type 0 where
  pub codes : Codes
  pub accepted : r ≡ Ok codes
  pub right : SecondRight d table bits shares codes

pub gives-right : {d : Description} {table : List ℤ} {bits : Bits} {shares : Shares} {r : SecondHalf} → GivesCodes d table bits shares r → second_number r ≡ 0
    → GivenRight d table bits shares r
gives-right {d} {table} {bits} {shares} {r} g z = by r refl
  where
    by : (x : SecondHalf) → r ≡ x → GivenRight d table bits shares r
    by (Ok codes) e = record { codes = codes; accepted = e; right = second-right d table bits shares codes (sym (gives-is g) ∙ e) }
    by (Err why) e = absurd (refused-not-0 why (sym (ap second_number e) ∙ z))
