-- Demand 3: the codes, rows and weights of an accepted look are right, for whatever could have been read. The raw M and the corrected M are two.
-- The rule's shares are stairs over the layers of the positions, and so are those of every other admissible reading: that gives one exact value, weights that
-- add up to D, and a row's own sample on its own point.
use Prim.Native.Nat.{ℕ, ◌*◌, ◌≤◌, ◌<◌}
use mathlib.Core.Path.{◌≡◌, refl, sym, ap, subst, ◌∙◌}
use mathlib.Core.Bool.{true}
use mathlib.Core.List.{List, [], ◌∷◌}
use native.Mathlib.Nat as NatL
use native.Mathlib.Omega.{arith}
use lib.IntN.{ℤ, pos, ◌*ℤ◌, +ℤ_idr}
use lib.Signed.{◌<ℤ◌}
use Rattle.whole.specs.Nearest.{Nearest, code, weights, Unsigned, Carrying}
use Rattle.whole.proofs.Halves as H
use Rattle.whole.proofs.NearestLaws.{code-nearest}
use Rattle.whole.proofs.Between.{codes-below, codes-above}
use Rattle.rules.specs.Units.{raw_m, corrected_m, rows_of, row_at, sample_at, code_in}
use Rattle.rules.specs.Descriptions.{rows, domain, common_span, span_in, could_be_read, Sound}
use Rattle.rules.specs.Looking.Interpolation.{den, den_of, position_of, index_of, fraction_of, order, pair_by, path_by, climb, pair, path, shares_for, weighed, total, denominator, code_by, row_code}
use Rattle.rules.specs.Looking.{shown, used, code_of, codes_by, correct, line_code}
use Rattle.rules.specs.Answers.{look_number}
use Rattle.rules.specs.Promises.{Looks}
use Rattle.rules.specs.Looking.Readings.{Reading}
use Rattle.rules.specs.Demands.{Each, Carried, ByReading, line, cube, LookRight, AllRight, Weighable, CodesRight}
use Rattle.rules.specs.declared.Bits.{Bits}
use Rattle.rules.specs.declared.Codes.{Codes}
use Rattle.rules.specs.declared.Colour.{Colour}
use Rattle.rules.specs.declared.Colour.TheVariants.{Red, Green, Blue}
use Rattle.rules.specs.declared.Depths.{Depths}
use Rattle.rules.specs.declared.Description.{Description}
use Rattle.rules.specs.declared.Kind.{Kind}
use Rattle.rules.specs.declared.Kind.TheVariants.{OneD, ThreeD}
use Rattle.rules.specs.declared.Share.{Share}
use Rattle.rules.specs.declared.Shares.{Shares}
use Rattle.rules.proofs.Sound.{sound-of, wide_enough}
use Rattle.rules.proofs.KnownDepths.{depths-bounds}
use Rattle.rules.proofs.Looking.Layers.{level, level-own, Stairs, layered, layered-own, stairs-total}
use Rattle.rules.proofs.Looking.EitherReading.{row_in, line-stairs, cube-stairs}
use Rattle.rules.proofs.Looking.Rule.{rule-reads}
use Rattle.rules.proofs.Looking.Spans.{span-some}
use Rattle.rules.proofs.Looking.Brought.{brought-reading}
use Rattle.rules.proofs.Looking.Chart.{order-rule}
use Rattle.rules.proofs.Looking.RowsAndWeights.{weights-not-negative, weights-add-up, pair-rows, path-rows}
use Rattle.rules.proofs.Looking.Judging.{weights-sum, not-negative-unsigned}
use Rattle.rules.proofs.Answers.{looks-is}
use Rattle.rules.proofs.Looking.Checks.{LookPassed, look-passed, look-0}
use Rattle.rules.specs.Results.{Look}

-- ---- one exact value

-- the row whose own point the indices j are
abbrev pub row_own : Kind → ℕ → (Colour → ℕ) → Colour → ℕ
row_own OneD n j c = j c
row_own ThreeD n j c = row_at n j

-- the row in which a layer of a pixel lies
unfoldable pub layer_row : Description → ℕ → Codes → Kind → Colour → ℕ → ℕ
layer_row d m pixel OneD c = level (position_of d m pixel c) (den_of d m c)
layer_row d m pixel ThreeD c = row_in d.n (den_of d m c) (position_of d m pixel)

-- 3D has one D
pub one-den : (d : Description) (raw : ℕ) → d.kind ≡ ThreeD → (c k : Colour) → den_of d raw c ≡ den_of d raw k
one-den d raw e c k = let one : (c : Colour) → den_of d raw c ≡ raw * common_span d = λ c. ap (λ x. raw * span_in x d c) e in one c ∙ sym (one k)

pub den-above-0 : (d : Description) (table : List ℤ) (raw : ℕ) → could_be_read d table ≡ true → 0 < raw → (c : Colour) → 0 < den_of d raw c
den-above-0 d table raw could deep c = NatL.mul-pos deep (span-some d (sound-of d table could) c)

module _ (d : Description) (table : List ℤ) (raw : ℕ) (pixel : Codes) (could : could_be_read d table ≡ true) (deep : 0 < raw) where
  abbrev g : Sound d table
  g = sound-of d table could

  -- over the D of the weights, from the colour's own domain
  pub reads : (c : Colour) → Reading d.n (den_of d raw c) (position_of d raw pixel c) (index_of d raw pixel c) (fraction_of d raw pixel c)
  reads c =
      let own : 0 < den raw (domain d c) = NatL.mul-pos deep (wide_enough (g.domains c)) in
      brought-reading (den raw (domain d c)) (den_of d raw c) own (rule-reads raw (domain d c) d.n (code_in pixel c) own g.least)

  -- readings over each colour's D, over one
  over-one : d.kind ≡ ThreeD → (c : Colour) (i f : Colour → ℕ) → ((k : Colour) → Reading d.n (den_of d raw k) (position_of d raw pixel k) (i k) (f k))
      → (k : Colour) → Reading d.n (den_of d raw c) (position_of d raw pixel k) (i k) (f k)
  over-one e c i f r k = subst (λ x. Reading d.n x (position_of d raw pixel k) (i k) (f k)) (one-den d raw e k c) (r k)

  pub rule-stairs : (k : Kind) → d.kind ≡ k → (c : Colour) → Stairs (layer_row d raw pixel k c) (den_of d raw c) (shares_for d raw pixel k c)
  unfolding layer_row pair path
  rule-stairs OneD e c = line-stairs (reads c)
  rule-stairs ThreeD e c =
      let f = fraction_of d raw pixel in
      let i = index_of d raw pixel in
      subst (λ x. Stairs (row_in d.n x (position_of d raw pixel)) x (path d raw pixel)) (one-den d raw e Red c)
      (cube-stairs (over-one e Red i f reads) (order-rule f).descends)

  pub reading-layers : (k : Kind) → d.kind ≡ k → (c : Colour) (t : ℤ) → ByReading d table raw pixel c k t → t ≡ layered table c (layer_row d raw pixel k c) (den_of d raw c)
  unfolding layer_row
  reading-layers k e c t (line i f r) = stairs-total table c (line-stairs r)
  reading-layers k e c t (cube i f o r s) = stairs-total table c (cube-stairs (over-one e c i f r) s)

  -- the rule's own reading is admissible
  pub rule-reading : (k : Kind) → d.kind ≡ k → (c : Colour) → ByReading d table raw pixel c k (total table c (shares_for d raw pixel k c))
  unfolding pair path
  rule-reading OneD e c = line (index_of d raw pixel c) (fraction_of d raw pixel c) (reads c)
  rule-reading ThreeD e c =
      let f = fraction_of d raw pixel in
      let i = index_of d raw pixel in
      subst (λ x. ByReading d table raw pixel c ThreeD (total table c (path_by d.n x i f (order f)))) (one-den d raw e c Red)
      (cube i f (order f) reads (order-rule f).descends)

  -- and every other gives the same
  pub one_value : (c : Colour) (t : ℤ) → ByReading d table raw pixel c d.kind t → t ≡ total table c (shares_for d raw pixel d.kind c)
  one_value c t r = reading-layers d.kind refl c t r ∙ sym (stairs-total table c (rule-stairs d.kind refl c))

  -- at a pixel that sits on a row's own point the exact value is that row's sample
  pub own-point : (j : Colour → ℕ) → ((k : Colour) → position_of d raw pixel k ≡ j k * den_of d raw k) → (c : Colour)
      → total table c (shares_for d raw pixel d.kind c) ≡ pos (den_of d raw c) *ℤ sample_at table (row_own d.kind d.n j c) c
  unfolding layer_row
  own-point j h c =
      stairs-total table c (rule-stairs d.kind refl c)
      ∙ layered-own table c (layer_row d raw pixel d.kind c) (den_of d raw c) (row_own d.kind d.n j c) (in-own d.kind refl)
    where
      level-at : (den : ℕ) (k : Colour) (t : ℕ) → den_of d raw k ≡ den → t < den → level (position_of d raw pixel k) den t ≡ j k
      level-at den k t e l = ap (λ p. level p den t) (h k ∙ ap (λ x. j k * x) e) ∙ level-own den (j k) t l

      in-own : (k : Kind) → d.kind ≡ k → (t : ℕ) → t < den_of d raw c → layer_row d raw pixel k c t ≡ row_own k d.n j c
      in-own OneD e t l = level-at (den_of d raw c) c t refl l
      in-own ThreeD e t l =
          let one : (k : Colour) → level (position_of d raw pixel k) (den_of d raw c) t ≡ j k = λ k. level-at (den_of d raw c) k t (one-den d raw e k c) l in
          rw (one Red, one Green, one Blue)

  -- in 1D each colour by itself
  pub own_line : d.kind ≡ OneD → (j : ℕ) (c : Colour) → position_of d raw pixel c ≡ j * den_of d raw c
      → total table c (shares_for d raw pixel d.kind c) ≡ pos (den_of d raw c) *ℤ sample_at table j c
  unfolding layer_row
  own_line e j c h =
      stairs-total table c (rule-stairs d.kind refl c)
      ∙ layered-own table c (layer_row d raw pixel d.kind c) (den_of d raw c) j (in-own d.kind e)
    where
      in-own : (k : Kind) → k ≡ OneD → (t : ℕ) → t < den_of d raw c → layer_row d raw pixel k c t ≡ j
      in-own k e t l = ap (λ x. layer_row d raw pixel x c t) e ∙ ap (λ p. level p (den_of d raw c) t) h ∙ level-own (den_of d raw c) j t l

  -- the rows are below the count of rows
  pub rows-below : (k : Kind) (c : Colour) → Each (λ x. x.row < rows_of k d.n) (shares_for d raw pixel k c)
  unfolding pair path
  rows-below OneD c = pair-rows d.n (den_of d raw c) (index_of d raw pixel c) (fraction_of d raw pixel c) (reads c).cell
  rows-below ThreeD c =
      let f = fraction_of d raw pixel in
      path-rows d.n (den_of d raw Red) (index_of d raw pixel) f (order f) (λ k. (reads k).cell)

-- ---- the code of shares whose weights add up to D: the nearest, and between the codes of the rows that carry weight

module _ (table : List ℤ) (c : Colour) (den m : ℕ) (wide : 0 < den) where
  denominator-above-0 : 0 < denominator den
  denominator-above-0 = omega arith

  pub code-is-nearest : (ss : List Share) → Nearest (pos m *ℤ total table c ss) (denominator den) m (code_by m den table c ss)
  unfolding code_by
  code-is-nearest ss = code-nearest (pos m *ℤ total table c ss) (denominator den) m denominator-above-0

  -- a row's code is the code of its sample by itself
  pub row-code : (row : ℕ) → row_code m den table c row ≡ code (pos m *ℤ (pos den *ℤ sample_at table row c)) (denominator den) m
  unfolding code_by
  row-code row = ap (λ z. code (pos m *ℤ z) (denominator den) m) (+ℤ_idr (pos den *ℤ sample_at table row c))

  carried-codes : (P : ℕ → Type 0) (ss : List Share) → Carried (λ x. P (row_code m den table c x.row)) ss
      → Carrying (λ z. P (code (pos m *ℤ (pos den *ℤ z)) (denominator den) m)) (weighed table c ss)
  carried-codes P [] h = tt
  carried-codes P (s ∷ ss) h = (λ w. subst P (row-code s.row) (h.0 w), carried-codes P ss h.1)

  module _ (ss : List Share) (u : Unsigned (weighed table c ss)) (w : weights (weighed table c ss) ≡ pos den) (a : ℕ) where
    some-weight : pos 0 <ℤ weights (weighed table c ss)
    some-weight = rw w (H.lt_by (pos 0) (pos den) (omega arith))

    pub code_below : Carried (λ x. row_code m den table c x.row ≤ a) ss → code_by m den table c ss ≤ a
    unfolding code_by
    code_below h =
        codes-below (weighed table c ss) u m (denominator den) m a denominator-above-0 some-weight (rw w (carried-codes (λ r. r ≤ a) ss h))

    pub code-above : Carried (λ x. a ≤ row_code m den table c x.row) ss → a ≤ code_by m den table c ss
    unfolding code_by
    code-above h =
        codes-above (weighed table c ss) u m (denominator den) m a denominator-above-0 some-weight (rw w (carried-codes (λ r. a ≤ r) ss h))

-- ---- of the definitions

-- of the six rows and weights those of a colour are the ones that its code is made of
pub used-shown : (d : Description) (m : ℕ) (pixel : Codes) (k : Kind) (c : Colour) → used k c (shown d m pixel k) ≡ shares_for d m pixel k c
unfolding shown pair path pair_by path_by climb
used-shown d m pixel OneD Red = refl
used-shown d m pixel OneD Green = refl
used-shown d m pixel OneD Blue = refl
used-shown d m pixel ThreeD c = refl

pub code-by : (d : Description) (table : List ℤ) (depths : Depths) (shares : Shares) (c : Colour) → code_in (codes_by d table depths shares) c ≡ code_of d table depths shares c
code-by d table depths shares Red = refl
code-by d table depths shares Green = refl
code-by d table depths shares Blue = refl

-- any rows and weights that may be weighed, whoever wrote them
pub codes-right : (d : Description) (table : List ℤ) (depths : Depths) (shares : Shares) → could_be_read d table ≡ true → 0 < raw_m depths → (c : Colour)
    → Weighable (rows d) (den_of d (raw_m depths) c) (used d.kind c shares) → CodesRight d table depths shares (codes_by d table depths shares) c
codes-right d table depths shares could deep c w =
    let code_is = code-by d table depths shares c in
    record {
      s = total table c ss;
      read_so = refl;
      read_otherwise = λ t e. e;
      nearest = rw code_is (code-is-nearest table c den m wide ss);
      by_rule = refl;
      shown = refl;
      add_up = add_up;
      not_negative = w.not_negative;
      in_table = w.in_table;
      below = λ a h. rw code_is (code_below table c den m wide ss unsigned add_up a h);
      above = λ a h. rw code_is (code-above table c den m wide ss unsigned add_up a h);
    }
  where
    m : ℕ
    m = corrected_m depths

    den : ℕ
    den = den_of d (raw_m depths) c

    wide : 0 < den
    wide = den-above-0 d table (raw_m depths) could deep c

    ss : List Share
    ss = used d.kind c shares

    add_up : weights (weighed table c ss) ≡ pos den
    add_up = weights-sum table c ss ∙ w.add_up

    unsigned : Unsigned (weighed table c ss)
    unsigned = not-negative-unsigned table c ss w.not_negative

-- the rule's own are such
pub rule-weighable : (d : Description) (table : List ℤ) (raw : ℕ) (pixel : Codes) → could_be_read d table ≡ true → 0 < raw → (c : Colour)
    → Weighable (rows d) (den_of d raw c) (used d.kind c (shown d raw pixel d.kind))
rule-weighable d table raw pixel could deep c =
    let stairs = rule-stairs d table raw pixel could deep d.kind refl c in
    rw (used-shown d raw pixel d.kind c)
    (record { in_table = rows-below d table raw pixel could deep d.kind c; not_negative = weights-not-negative stairs; add_up = weights-add-up stairs })

-- and their exact value is that of every admissible reading
pub right : (d : Description) (table : List ℤ) (depths : Depths) (pixel : Codes) → could_be_read d table ≡ true → 0 < raw_m depths → (c : Colour)
    → LookRight d table depths pixel (correct d table depths pixel) (shown d (raw_m depths) pixel d.kind) c
right d table depths pixel could deep c =
    let raw = raw_m depths in
    let used-are = used-shown d raw pixel d.kind c in
    let r = codes-right d table depths (shown d raw pixel d.kind) could deep c (rule-weighable d table raw pixel could deep c) in
    record {
      s = total table c (used d.kind c (shown d raw pixel d.kind));
      read_so = rw used-are (rule-reading d table raw pixel could deep d.kind refl c);
      read_otherwise = λ t by. one_value d table raw pixel could deep c t by ∙ ap (total table c) (sym used-are);
      nearest = subst (λ z. Nearest (pos (corrected_m depths) *ℤ z) (denominator (den_of d raw c)) (corrected_m depths) (code_in (correct d table depths pixel) c)) r.read_so r.nearest;
      by_rule = used-are;
      shown = refl;
      add_up = r.add_up;
      not_negative = r.not_negative;
      in_table = r.in_table;
      below = r.below;
      above = r.above;
    }

-- ---- of every answer that meets the promise and is accepted

pub looks-right : {d : Description} {table : List ℤ} {bits : Bits} {pixel : Codes} {r : Look} → Looks d table bits pixel r → look_number r ≡ 0 → AllRight d table bits pixel r
looks-right {d} {table} {bits} {pixel} {r} l z =
    record {
      depths = p.depths;
      known = p.known;
      codes = correct d table p.depths pixel;
      shares = shown d (raw_m p.depths) pixel d.kind;
      accepted = looks-is l ∙ look-0 d table bits pixel p.depths p.could p.known p.inside;
      all_right = right d table p.depths pixel p.could (depths-bounds bits p.depths p.known).0.0;
    }
  where
    p : LookPassed d table bits pixel
    p = look-passed d table bits pixel (sym (ap look_number (looks-is l)) ∙ z)

-- in 1D a colour's code by itself is its code in a pixel, whatever the other two are
pub line-looked : (d : Description) (table : List ℤ) → d.kind ≡ OneD → (depths : Depths) (pixel : Codes) (c : Colour)
    → code_in (correct d table depths pixel) c ≡ line_code d table depths c (code_in pixel c)
unfolding pair
line-looked d table one_d depths pixel c =
    code-by d table depths (shown d (raw_m depths) pixel d.kind) c
    ∙ ap (code_by (corrected_m depths) (den_of d (raw_m depths) c) table c)
    (used-shown d (raw_m depths) pixel d.kind c ∙ ap (λ k. shares_for d (raw_m depths) pixel k c) one_d)
