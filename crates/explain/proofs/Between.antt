-- Demand 3 at the desk: an accepted look can be shown, and its code never lies outside the codes that are shown beside it.
use Prim.Native.Nat.{ℕ, ◌≤◌}
use mathlib.Core.Path.{◌≡◌, refl, sym, ap, ◌∙◌}
use mathlib.Core.Bool.{Bool, true, false}
use mathlib.Core.List.{List, [], ◌∷◌}
use native.Mathlib.Omega.{arith}
use lib.IntN.{ℤ, pos}
use lib.Signed.{◌<ℤ◌, lt_z}
use Rattle.whole.proofs.Held.{true-by}
use Rattle.rules.specs.Units.{depths_of, raw_m, corrected_m, code_in}
use Rattle.rules.specs.Descriptions.{rows}
use Rattle.rules.specs.Looking.Interpolation.{den_of, row_code}
use Rattle.rules.specs.Answers.{look_number}
use Rattle.rules.specs.Promises.{Looks}
use Rattle.rules.specs.Looking.{used}
use Rattle.rules.specs.Demands.{Carried, Right, LookRight, AllRight}
use Rattle.rules.specs.declared.Bits.{Bits}
use Rattle.rules.specs.declared.Codes.{Codes}
use Rattle.rules.specs.declared.Colour.{Colour}
use Rattle.rules.specs.declared.Depths.{Depths}
use Rattle.rules.specs.declared.Description.{Description}
use Rattle.rules.specs.declared.Looked.{Looked}
use Rattle.rules.specs.declared.Share.{Share}
use Rattle.rules.specs.declared.Shares.{Shares}
use Rattle.rules.proofs.Looking.Checks.{look-passed}
use Rattle.rules.proofs.Looking.Demand3.{looks-right}
use Rattle.rules.proofs.KnownDepths.{depths-bounds}
use Rattle.explain.specs.Spans.{carries, widened, span_of, shown_span, Seen}
use Rattle.explain.specs.declared.rows.Span.{Span}
use Rattle.std.specs.Prelude.{Some}
use Rattle.rules.specs.Results.{Look, look_of}

-- ---- of any shares: what carries weight has its code within the span

module _ (code_of : ℕ → ℕ) (m : ℕ) where
  -- a span with one row more holds the span without it, and the row's code if it carries weight
  pub record Wider (s : Share) (narrow wide : Span) : Type 0 where
    pub lower : wide.least ≤ narrow.least
    pub higher : narrow.greatest ≤ wide.greatest
    pub own-low : carries s ≡ true → wide.least ≤ code_of s.row
    pub own-high : carries s ≡ true → code_of s.row ≤ wide.greatest

  wider : (s : Share) (span : Span) → Wider s span (widened code_of s span)
  unfolding widened
  wider s span = by (carries s) refl
    where
      by : (b : Bool) → carries s ≡ b → Wider s span (widened code_of s span)
      by true e = rw e (record { lower = omega arith; higher = omega arith; own-low = λ t. omega arith; own-high = λ t. omega arith })
      by false e = rw e (record { lower = omega arith; higher = omega arith; own-low = λ t. absurd (never (sym e ∙ t)); own-high = λ t. absurd (never (sym e ∙ t)) })
        where
          never : false ≡ true → ⊥
          never t = let z : ◌≡◌ {A = ℕ} 0 1 = cc in omega arith

  carrying : (s : Share) → pos 0 <ℤ s.weight → carries s ≡ true
  unfolding carries
  carrying s h = true-by (lt_z (pos 0) s.weight) h.lt

  least-below : (a : ℕ) (ss : List Share) → a ≤ (span_of code_of m ss).least → Carried (λ s. a ≤ code_of s.row) ss
  unfolding span_of
  least-below a [] h = tt
  least-below a (s ∷ ss) h =
      let w = wider s (span_of code_of m ss) in
      (λ p. omega (arith, w.own-low (carrying s p)), least-below a ss (omega (arith, w.lower)))

  greatest-above : (a : ℕ) (ss : List Share) → (span_of code_of m ss).greatest ≤ a → Carried (λ s. code_of s.row ≤ a) ss
  unfolding span_of
  greatest-above a [] h = tt
  greatest-above a (s ∷ ss) h =
      let w = wider s (span_of code_of m ss) in
      (λ p. omega (arith, w.own-high (carrying s p)), greatest-above a ss (omega (arith, w.higher)))

-- a code that is right lies between
pub right-between : (table : List ℤ) (c : Colour) (count den m : ℕ) {Value : ℤ → Type 0} {Rule : List Share → Type 0} (ss : List Share) {code : ℕ}
    → Right table c count den m Value Rule ss code → let span = span_of (row_code m den table c) m ss in (span.least ≤ code) × (code ≤ span.greatest)
right-between table c count den m ss r =
    let f = row_code m den table c in
    (r.above _ (least-below f m _ ss (omega arith)), r.below _ (greatest-above f m _ ss (omega arith)))

-- ---- of a look that is accepted

right-same : {d : Description} {table : List ℤ} {depths depths' : Depths} {pixel codes codes' : Codes} {shares shares' : Shares} {c : Colour}
    → depths ≡ depths' → codes ≡ codes' → shares ≡ shares' → LookRight d table depths pixel codes shares c → LookRight d table depths' pixel codes' shares' c
right-same p q s r = rw (← p, ← q, ← s) r

module _ {d : Description} {table : List ℤ} {bits : Bits} {pixel : Codes} {r : Look} (l : Looks d table bits pixel r)
    {codes : Codes} {shares : Shares} (e : r ≡ look_of codes shares) (depths : Depths) (known : depths_of bits ≡ Some depths) where
  all : AllRight d table bits pixel r
  all = looks-right l (ap look_number e)

  -- the depths are these, and so are the codes and the shares
  depths-same : all.depths ≡ depths
  depths-same = let q = sym all.known ∙ known in cc

  looked-same : ◌≡◌ {A = Looked} (record { codes = all.codes; shares = all.shares }) (record { codes = codes; shares = shares })
  looked-same = let q = sym all.accepted ∙ e in cc

  codes_same : all.codes ≡ codes
  codes_same = ap (λ l. l.codes) looked-same

  shares-same : all.shares ≡ shares
  shares-same = ap (λ l. l.shares) looked-same

  right : (c : Colour) → LookRight d table depths pixel codes shares c
  right c = right-same depths-same codes_same shares-same (all.all_right c)

  -- it can be shown
  pub seen : Seen d table depths shares
  seen = record {
    could = (look-passed d table bits pixel (sym l.number ∙ ap look_number e)).could;
    deep = (depths-bounds bits depths known).0.0;
    in_table = λ c. (right c).in_table;
  }

  -- no colour's code lies outside the codes that are shown beside it
  pub code-between : (c : Colour) → let span = shown_span d table depths shares c in (span.least ≤ code_in codes c) × (code_in codes c ≤ span.greatest)
  code-between c = right-between table c (rows d) (den_of d (raw_m depths) c) (corrected_m depths) (used d.kind c shares) (right c)
