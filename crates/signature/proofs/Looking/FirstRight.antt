-- Demand 3 of the first half (document 02, Req 09): the rows and weights that it finds are those of the rule, the exact value of every admissible reading is made of
-- exactly these, and the second half may weigh them.
use Prim.Native.Nat.{ℕ, ◌<◌}
use mathlib.Core.Path.{◌≡◌, refl, sym, ap, subst, ◌∙◌}
use mathlib.Core.Bool.{true}
use mathlib.Core.List.{List}
use lib.IntN.{ℤ}
use Rattle.rules.specs.Units.{depth_of}
use Rattle.rules.specs.Descriptions.{rows, could_be_read}
use Rattle.rules.specs.Looking.Interpolation.{den_of, shares_for, total}
use Rattle.rules.specs.Looking.{shown, used, first_half}
use Rattle.rules.specs.Answers.{first_number}
use Rattle.rules.specs.Promises.{FindsRows}
use Rattle.rules.specs.Demands.{ByReading, Weighable}
use Rattle.rules.specs.declared.Codes.{Codes}
use Rattle.rules.specs.declared.Colour.{Colour}
use Rattle.rules.specs.declared.Depth.{Depth}
use Rattle.rules.specs.declared.Description.{Description}
use Rattle.rules.specs.declared.Shares.{Shares}
use Rattle.rules.proofs.Answers.{refused-not-0, finds-is}
use Rattle.rules.proofs.KnownDepths.{depth-bounds}
use Rattle.rules.proofs.Looking.Demand3.{one_value, rule-reading, rule-weighable, used-shown}
use Rattle.rules.proofs.Looking.Halves.{first-with, rows-0}
use Rattle.signature.proofs.Looking.HalvesNumbers.{FirstGiven, finds-0, first-exactly}
use Rattle.std.specs.Prelude.{Err, Ok, Some}
use Rattle.rules.specs.Results.{FirstHalf}

-- what a colour's code is to be made of, at the M of raw codes
pub record RowsRight (d : Description) (table : List ℤ) (m : ℕ) (pixel : Codes) (shares : Shares) (c : Colour) : Type 0 where
  -- the rows and weights of the rule
  pub by_rule : used d.kind c shares ≡ shares_for d m pixel d.kind c
  -- their exact value, the same by every admissible reading
  pub read_so : ByReading d table m pixel c d.kind (total table c (used d.kind c shares))
  pub read_otherwise : (t : ℤ) → ByReading d table m pixel c d.kind t → t ≡ total table c (used d.kind c shares)
  -- rows of the table, and weights that are not negative and add up to D
  pub weighable : Weighable (rows d) (den_of d m c) (used d.kind c shares)

-- rows and weights that were found: the raw depth is known, and those of each colour are right
pub record FirstRight (d : Description) (table : List ℤ) (raw : ℕ) (pixel : Codes) (shares : Shares) : Type 0 where
  pub depth : Depth
  pub known : depth_of raw ≡ Some depth
  pub all_right : (c : Colour) → RowsRight d table depth.greatest pixel shares c

-- ---- of the definition

-- those of the rule are right
rule-right : (d : Description) (table : List ℤ) (m : ℕ) (pixel : Codes) → could_be_read d table ≡ true → 0 < m → (c : Colour)
    → RowsRight d table m pixel (shown d m pixel d.kind) c
rule-right d table m pixel could deep c =
    let used-are = used-shown d m pixel d.kind c in
    record {
      by_rule = used-are;
      read_so = rw used-are (rule-reading d table m pixel could deep d.kind refl c);
      read_otherwise = λ t r. one_value d table m pixel could deep c t r ∙ ap (total table c) (sym used-are);
      weighable = rule-weighable d table m pixel could deep c;
    }

-- and the first half finds these
pub first-right : (d : Description) (table : List ℤ) (raw : ℕ) (pixel : Codes) (shares : Shares) → first_half d table raw pixel ≡ Ok shares
    → FirstRight d table raw pixel shares
first-right d table raw pixel shares accepted = by ((first-exactly d table raw pixel 0).0 (ap first_number accepted))
  where
    by : FirstGiven d table raw pixel 0 → FirstRight d table raw pixel shares
    by (finds-0 e depth k inside) =
        let same = sym (first-with d table raw pixel depth e k ∙ rows-0 d depth.greatest pixel inside) ∙ accepted in
        let found : shown d depth.greatest pixel d.kind ≡ shares = cc in
        let of-the-rule = rule-right d table depth.greatest pixel e (depth-bounds raw depth k).0 in
        record { depth = depth; known = k; all_right = λ c. subst (λ x. RowsRight d table depth.greatest pixel x c) found (of-the-rule c) }

-- ---- of every answer that meets the promise and is accepted

-- its rows and weights are right
pub record FoundRight (d : Description) (table : List ℤ) (raw : ℕ) (pixel : Codes) (r : FirstHalf) : Type 0 where
  pub shares : Shares
  pub accepted : r ≡ Ok shares
  pub right : FirstRight d table raw pixel shares

pub finds-right : {d : Description} {table : List ℤ} {raw : ℕ} {pixel : Codes} {r : FirstHalf} → FindsRows d table raw pixel r → first_number r ≡ 0
    → FoundRight d table raw pixel r
finds-right {d} {table} {raw} {pixel} {r} f z = by r refl
  where
    by : (x : FirstHalf) → r ≡ x → FoundRight d table raw pixel r
    by (Ok shares) e = record { shares = shares; accepted = e; right = first-right d table raw pixel shares (sym (finds-is f) ∙ e) }
    by (Err why) e = absurd (refused-not-0 why (sym (ap first_number e) ∙ z))
