-- The promises of `erythmoda_rows` and `erythmoda_codes` (document 02, Req 09): each decides its answer; what their numbers say of the memory that they were lent, and
-- when each is given; and that at known depths one after the other is `erythmoda_look`.
use Prim.Native.Nat.{ℕ}
use mathlib.Core.Path.{◌≡◌, refl, sym, ap, ap₂, subst, ◌∙◌}
use mathlib.Core.Logic.{inl, inr, ◌↔◌}
use mathlib.Core.List.{List, [], ◌∷◌, map}
use native.Mathlib.Omega.{arith}
use lib.IntN.{ℤ, pos}
use lib.ListN.{replicate}
use Rattle.rules.specs.Units.{depths_of}
use Rattle.rules.specs.Looking.{first_half, second_half, look}
use Rattle.rules.specs.Answers.{refusal_number, look_number, look_codes, look_rows, look_weights, first_number, first_rows, first_weights, codes_of, shares_of, second_number, second_codes}
use Rattle.rules.specs.Boundary.{described_in, eleven_of, pixel_in, shares_in, answered, look_in, first_in, second_in, ReadsC, LooksC, FindsRowsC, GivesCodesC}
use Rattle.rules.specs.declared.Bits.{Bits}
use Rattle.rules.specs.declared.Codes.{Codes}
use Rattle.rules.specs.declared.Depths.{Depths}
use Rattle.rules.specs.declared.Description.{Description}
use Rattle.rules.specs.declared.Refusal.{Refusal}
use Rattle.rules.specs.declared.Refusal.TheVariants.{CouldNotBeRead}
use Rattle.rules.specs.declared.Share.{Share}
use Rattle.rules.specs.declared.Shares.{Shares}
use Rattle.rules.proofs.Answers.{refused-not-0, is-finds, is-gives}
use Rattle.rules.proofs.Boundary.Described.{called-described, called-each, Given, given}
use Rattle.signature.specs.Numbers.{OneOf}
use Rattle.signature.proofs.Looking.Joined as J
use Rattle.signature.proofs.Looking.HalvesNumbers.{OfFirst, OfSecond, FirstGiven, SecondGiven, Judged26, first-numbers, second-numbers, first-zeros, second-zeros, first-not-24, second-not-24, finds-exactly, gives-exactly, gives-26, second-26-exactly}
use Rattle.signature.proofs.Looking.FirstRight.{FirstRight, finds-right}
use Rattle.signature.proofs.Looking.SecondRight.{SecondRight, gives-right}
use Rattle.signature.proofs.Boundary.Crossing.{call-crosses}
use Rattle.signature.proofs.Boundary.Reads.{read-accepted, read-bridge}
use Rattle.std.specs.Prelude.{Err, None, Ok, Option, Some}
use Rattle.rules.specs.Results.{FirstHalf, look_of}

-- ---- a description that crosses comes to the same call

pub first-crosses : (d : Description) (table : List ℤ) (raw : ℕ) (pixel : Codes) → first_in (eleven_of d) table raw pixel ≡ first_half d table raw pixel
first-crosses d table raw pixel = call-crosses _ (λ e. first_half e table raw pixel) d

pub second-crosses : (d : Description) (table : List ℤ) (bits : Bits) (shares : Shares) → second_in (eleven_of d) table bits shares ≡ second_half d table bits shares
second-crosses d table bits shares = call-crosses _ (λ e. second_half e table bits shares) d

-- ---- two answers of a call that meet its promise are equal, and so is everything that was lent

pub finds-c-one : {eleven table v w : List ℤ} {raw m n : ℕ} {pixel r s : List ℕ} → FindsRowsC eleven table raw pixel m r v → FindsRowsC eleven table raw pixel n s w
    → (m ≡ n) × (r ≡ s) × (v ≡ w)
finds-c-one p q = (p.number_so ∙ sym q.number_so, p.rows_so ∙ sym q.rows_so, p.weights_so ∙ sym q.weights_so)

pub gives-c-one : {eleven table weights : List ℤ} {bits : Bits} {m n : ℕ} {rows a b : List ℕ} → GivesCodesC eleven table bits rows weights m a
    → GivesCodesC eleven table bits rows weights n b → (m ≡ n) × (a ≡ b)
gives-c-one p q = (p.number_so ∙ sym q.number_so, p.codes_so ∙ sym q.codes_so)

-- ---- the first half

-- what acceptance says: the rows and weights are right
pub record RowsAccepted (eleven table : List ℤ) (raw : ℕ) (pixel rows' : List ℕ) (weights' : List ℤ) : Type 0 where
  pub d : Description
  pub described : described_in eleven ≡ Some d
  pub shares : Shares
  pub rows_so : rows' ≡ map (λ (s : Share). s.row) (shares_of shares)
  pub weights_so : weights' ≡ map (λ (s : Share). s.weight) (shares_of shares)
  pub right : FirstRight d table raw (pixel_in pixel) shares

module _
    {eleven table : List ℤ} {raw : ℕ} {pixel : List ℕ} {number : ℕ} {rows' : List ℕ} {weights' : List ℤ}
    (h : FindsRowsC eleven table raw pixel number rows' weights')
  where
    -- the call answers 0, 20, 23 or 24
    pub finds-c-number : OneOf number (0 ∷ 20 ∷ 23 ∷ 24 ∷ [])
    unfolding refusal_number
    finds-c-number =
        subst (λ n. OneOf n (0 ∷ 20 ∷ 23 ∷ 24 ∷ [])) (sym h.number_so)
        (called-each OfFirst (inr (inr (inr (inl refl)))) (λ d. first-numbers d table raw (pixel_in pixel)) eleven)

    -- with a description, each where the first half gives it
    pub finds-c-exactly : {d : Description} → described_in eleven ≡ Some d → (n : ℕ) → (number ≡ n) ↔ FirstGiven d table raw (pixel_in pixel) n
    finds-c-exactly {d} described n =
        let e = h.number_so ∙ ap first_number (called-described _ (λ d. first_half d table raw (pixel_in pixel)) eleven described) in
        let exactly = finds-exactly {r = first_half d table raw (pixel_in pixel)} (is-finds refl) n in
        (λ z. exactly.0 (sym e ∙ z), λ g. e ∙ exactly.1 g)

    -- a refusal writes zeros
    pub rows-refused : (number ≡ 0 → ⊥) → (rows' ≡ replicate 6 0) × (weights' ≡ replicate 6 (pos 0))
    rows-refused not-0 =
        let zeros = first-zeros (first_in eleven table raw (pixel_in pixel)) (λ z. not-0 (h.number_so ∙ z)) in
        (h.rows_so ∙ zeros.0, h.weights_so ∙ zeros.1)

    pub rows-accepted : number ≡ 0 → RowsAccepted eleven table raw pixel rows' weights'
    rows-accepted z =
        let g = given {call = λ d. first_half d table raw (pixel_in pixel)} eleven (λ a. first_number a ≡ 0) (refused-not-0 CouldNotBeRead) (sym h.number_so ∙ z) in
        let a = finds-right {r = first_half g.d table raw (pixel_in pixel)} (is-finds refl) (sym (h.number_so ∙ ap first_number g.answer-so) ∙ z) in
        let so = g.answer-so ∙ a.accepted in
        record {
          d = g.d;
          described = g.described;
          shares = a.shares;
          rows_so = h.rows_so ∙ ap first_rows so;
          weights_so = h.weights_so ∙ ap first_weights so;
          right = a.right;
        }

-- ---- the second half

-- what acceptance says: the codes of these rows and weights are right
pub record CodesAccepted (eleven table : List ℤ) (bits : Bits) (rows : List ℕ) (weights : List ℤ) (codes' : List ℕ) : Type 0 where
  pub d : Description
  pub described : described_in eleven ≡ Some d
  pub codes : Codes
  pub codes_so : codes' ≡ codes_of codes
  pub right : SecondRight d table bits (shares_in rows weights) codes

-- what 26 says: one of its three conditions holds of these rows and weights
pub record Codes26 (eleven table : List ℤ) (bits : Bits) (rows : List ℕ) (weights : List ℤ) : Type 0 where
  pub d : Description
  pub described : described_in eleven ≡ Some d
  pub judged : Judged26 d table bits (shares_in rows weights)

module _
    {eleven table : List ℤ} {bits : Bits} {rows : List ℕ} {weights : List ℤ} {number : ℕ} {codes' : List ℕ}
    (h : GivesCodesC eleven table bits rows weights number codes')
  where
    -- the call answers 0, 20, 24 or 26
    pub gives-c-number : OneOf number (0 ∷ 20 ∷ 24 ∷ 26 ∷ [])
    unfolding refusal_number
    gives-c-number =
        subst (λ n. OneOf n (0 ∷ 20 ∷ 24 ∷ 26 ∷ [])) (sym h.number_so)
        (called-each OfSecond (inr (inr (inl refl))) (λ d. second-numbers d table bits (shares_in rows weights)) eleven)

    -- with a description, each where the second half gives it
    pub gives-c-exactly : {d : Description} → described_in eleven ≡ Some d → (n : ℕ) → (number ≡ n) ↔ SecondGiven d table bits (shares_in rows weights) n
    gives-c-exactly {d} described n =
        let e = h.number_so ∙ ap second_number (called-described _ (λ d. second_half d table bits (shares_in rows weights)) eleven described) in
        let exactly = gives-exactly {r = second_half d table bits (shares_in rows weights)} (is-gives refl) n in
        (λ z. exactly.0 (sym e ∙ z), λ g. e ∙ exactly.1 g)

    -- the eleven numbers give a description wherever the answer is not that of 24
    abbrev answered_by : (n : ℕ) → (refusal_number CouldNotBeRead ≡ n → ⊥) → number ≡ n
        → Given (λ d. second_half d table bits (shares_in rows weights)) eleven (second_in eleven table bits (shares_in rows weights))
    answered_by n not-24 z = given eleven (λ a. second_number a ≡ n) not-24 (sym h.number_so ∙ z)

    -- 26 exactly where they give one, and by it one of the three conditions holds
    pub gives-c-26 : (number ≡ 26) ↔ Codes26 eleven table bits rows weights
    unfolding refusal_number
    gives-c-26 = (of, λ c. (gives-c-exactly c.described 26).1 (gives-26 c.judged))
      where
        of : number ≡ 26 → Codes26 eleven table bits rows weights
        of z =
            let g = answered_by 26 (λ e. omega (arith, e)) z in
            record {
              d = g.d;
              described = g.described;
              judged = (second-26-exactly g.d table bits (shares_in rows weights)).0 (sym (h.number_so ∙ ap second_number g.answer-so) ∙ z);
            }

    -- a refusal writes zeros
    pub codes-refused : (number ≡ 0 → ⊥) → codes' ≡ replicate 3 0
    codes-refused not-0 = h.codes_so ∙ second-zeros (second_in eleven table bits (shares_in rows weights)) (λ z. not-0 (h.number_so ∙ z))

    pub codes-accepted : number ≡ 0 → CodesAccepted eleven table bits rows weights codes'
    codes-accepted z =
        let g = answered_by 0 (refused-not-0 CouldNotBeRead) z in
        let a = gives-right {r = second_half g.d table bits (shares_in rows weights)} (is-gives refl) (sym (h.number_so ∙ ap second_number g.answer-so) ∙ z) in
        record {
          d = g.d;
          described = g.described;
          codes = a.codes;
          codes_so = h.codes_so ∙ ap second_codes (g.answer-so ∙ a.accepted);
          right = a.right;
        }

-- ---- of what an accepted reading wrote neither is 24

module _ {file : List ℕ} {table table' eleven' : List ℤ} {line' : ℕ} (h : ReadsC file table 0 table' eleven' line') where
  pub read-then-rows : {raw : ℕ} {pixel : List ℕ} {number : ℕ} {rows' : List ℕ} {weights' : List ℤ}
      → FindsRowsC eleven' table' raw pixel number rows' weights' → number ≡ 24 → ⊥
  read-then-rows {raw} {pixel} f e =
      let (described, could) = read-bridge (read-accepted h refl) in
      first-not-24 _ table' raw (pixel_in pixel) could
      (sym (f.number_so ∙ ap first_number (called-described _ (λ d. first_half d table' raw (pixel_in pixel)) eleven' described)) ∙ e)

  pub read-then-codes : {bits : Bits} {rows : List ℕ} {weights : List ℤ} {number : ℕ} {codes' : List ℕ}
      → GivesCodesC eleven' table' bits rows weights number codes' → number ≡ 24 → ⊥
  read-then-codes {bits} {rows} {weights} g e =
      let (described, could) = read-bridge (read-accepted h refl) in
      second-not-24 _ table' bits (shares_in rows weights) could
      (sym (g.number_so ∙ ap second_number (called-described _ (λ d. second_half d table' bits (shares_in rows weights)) eleven' described)) ∙ e)

-- ---- one after the other, at known depths

module _ (eleven table : List ℤ) (bits : Bits) (pixel : Codes) (depths : Depths) (known : depths_of bits ≡ Some depths) where
  -- of eleven numbers too: what the first half refuses look refuses
  refused-in : {r : Refusal} → first_in eleven table bits.raw pixel ≡ Err r → look_in eleven table bits pixel ≡ Err r
  refused-in {r} = by (described_in eleven)
    where
      by : (o : Option Description) → answered (Err CouldNotBeRead) (λ d. first_half d table bits.raw pixel) o ≡ Err r
          → answered (Err CouldNotBeRead) (λ d. look d table bits pixel) o ≡ Err r
      by None e = let same : CouldNotBeRead ≡ r = cc in ap Err same
      by (Some d) e = J.first-refused d table bits pixel depths known e

  -- and of what it finds the second half gives the codes of look
  accepted-in : {shares : Shares} → first_in eleven table bits.raw pixel ≡ Ok shares
      → (codes : Codes) × (second_in eleven table bits shares ≡ Ok codes) × (look_in eleven table bits pixel ≡ look_of codes shares)
  accepted-in {shares} = by (described_in eleven)
    where
      by : (o : Option Description) → answered (Err CouldNotBeRead) (λ d. first_half d table bits.raw pixel) o ≡ Ok shares
          → (codes : Codes) × (answered (Err CouldNotBeRead) (λ d. second_half d table bits shares) o ≡ Ok codes)
          × (answered (Err CouldNotBeRead) (λ d. look d table bits pixel) o ≡ look_of codes shares)
      by None e = let z : ◌≡◌ {A = ℕ} 0 1 = cc in absurd (omega arith)
      by (Some d) e = let a = J.first-accepted d table bits pixel depths known e in (a.codes, a.second, a.looked)

module _
    {eleven table : List ℤ} {bits : Bits} {depths : Depths} {pixel : List ℕ} {number : ℕ} {rows' : List ℕ} {weights' : List ℤ}
    (known : depths_of bits ≡ Some depths) (f : FindsRowsC eleven table bits.raw pixel number rows' weights')
  where
    -- where `erythmoda_rows` refuses, its number and zeros, and three zeros for the codes, are what `erythmoda_look` answers
    pub halves-refused-c : (number ≡ 0 → ⊥) → LooksC eleven table bits pixel number (replicate 3 0) rows' weights'
    halves-refused-c not-0 = by (first_in eleven table bits.raw (pixel_in pixel)) refl
      where
        by : (x : FirstHalf) → first_in eleven table bits.raw (pixel_in pixel) ≡ x → LooksC eleven table bits pixel number (replicate 3 0) rows' weights'
        by (Ok shares) e = absurd (not-0 (f.number_so ∙ ap first_number e))
        by (Err r) e =
            let looked = refused-in eleven table bits (pixel_in pixel) depths known e in
            record {
              number_so = f.number_so ∙ ap first_number e ∙ sym (ap look_number looked);
              codes_so = sym (ap look_codes looked);
              rows_so = f.rows_so ∙ ap first_rows e ∙ sym (ap look_rows looked);
              weights_so = f.weights_so ∙ ap first_weights e ∙ sym (ap look_weights looked);
            }

    -- where it finds rows and weights, `erythmoda_codes` accepts them, and its number and codes with these rows and weights are what `erythmoda_look` answers
    pub halves-joined-c : {n : ℕ} {codes' : List ℕ} → number ≡ 0 → GivesCodesC eleven table bits rows' weights' n codes'
        → (n ≡ 0) × LooksC eleven table bits pixel n codes' rows' weights'
    halves-joined-c {n} {codes'} z g = by (first_in eleven table bits.raw (pixel_in pixel)) refl
      where
        by : (x : FirstHalf) → first_in eleven table bits.raw (pixel_in pixel) ≡ x → (n ≡ 0) × LooksC eleven table bits pixel n codes' rows' weights'
        by (Err r) e = absurd (refused-not-0 r (sym (f.number_so ∙ ap first_number e) ∙ z))
        by (Ok shares) e =
            let (codes, second, looked) = accepted-in eleven table bits (pixel_in pixel) depths known e in
            let rows_so = f.rows_so ∙ ap first_rows e in
            let weights_so = f.weights_so ∙ ap first_weights e in
            let given_so = ap (second_in eleven table bits) (ap₂ shares_in rows_so weights_so) ∙ second in (
              g.number_so ∙ ap second_number given_so,
              record {
                number_so = g.number_so ∙ ap second_number given_so ∙ sym (ap look_number looked);
                codes_so = g.codes_so ∙ ap second_codes given_so ∙ sym (ap look_codes looked);
                rows_so = rows_so ∙ sym (ap look_rows looked);
                weights_so = weights_so ∙ sym (ap look_weights looked);
              },
            )
