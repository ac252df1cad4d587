-- The promise of `erythmoda_inverse` (document 02, Req 04): it decides its answer; what its number says of the code and the count that it was lent, and when each is
-- given.
use Prim.Native.Nat.{ℕ, zero, suc, ◌+◌, ◌≤◌, ◌<◌}
use mathlib.Core.Path.{◌≡◌, refl, sym, ap, subst, ◌∙◌}
use mathlib.Core.Logic.{inl, inr, ◌↔◌}
use mathlib.Core.List.{List, [], ◌∷◌}
use borrow.Author.Tests.{ne_eqb}
use native.Mathlib.Omega.{arith}
use lib.IntN.{ℤ, pos}
use Rattle.rules.specs.Units.{depths_of, raw_m, colour_place}
use Rattle.rules.specs.Inverting.{inverse}
use Rattle.rules.specs.Answers.{refusal_number, inverse_number, inverse_code, inverse_count}
use Rattle.rules.specs.Boundary.{number_at, described_in, eleven_of, colour_in, aim_at, inverse_for, inverse_in, ReadsC, InvertsC}
use Rattle.rules.specs.Promises.{Inverts}
use Rattle.rules.specs.declared.Aim.{Aim}
use Rattle.rules.specs.declared.Bits.{Bits}
use Rattle.rules.specs.declared.Colour.{Colour}
use Rattle.rules.specs.declared.Colour.TheVariants.{Red, Green, Blue}
use Rattle.rules.specs.declared.Depths.{Depths}
use Rattle.rules.specs.declared.Description.{Description}
use Rattle.rules.specs.declared.Kind.TheVariants.{OneD}
use Rattle.rules.specs.declared.Refusal.TheVariants.{CouldNotBeRead}
use Rattle.rules.proofs.KnownDepths.{depths-bounds}
use Rattle.rules.proofs.Tests.{no-some}
use Rattle.rules.proofs.Answers.{refused-not-0, is-inverts}
use Rattle.rules.proofs.Boundary.Described.{called-described, called-none, called-each, Given, given}
use Rattle.signature.specs.Numbers.{OneOf}
use Rattle.rules.proofs.Inverting.Right.{InversePassed, ReachedIn, InverseGiven, not-read, unknown, too-great, none_within, answered, AcceptedRight, count_most, inverse-exactly, inverse-right}
use Rattle.signature.proofs.Inverting.Numbers.{NumberGiven, given-28, inverts-exactly, inverts-numbers, inverts-not-24, count-28, count-before, refused-code}
use Rattle.signature.proofs.Boundary.Crossing.{kind_at, kind-given, call-crosses}
use Rattle.signature.proofs.Boundary.Reads.{ReadAccepted, read-accepted, read-bridge}
use Rattle.std.specs.Prelude.{Err, None, Ok, Option, Some}
use Rattle.rules.specs.Results.{Inverse, inverse_of, no_inverse}

-- ---- a colour as a number

pub colour-crosses : (c : Colour) → colour_in (colour_place c) ≡ Some c
colour-crosses Red = refl
colour-crosses Green = refl
colour-crosses Blue = refl

-- anything above 2 is no colour, and nothing else is none
pub no-colour : (n : ℕ) → (colour_in n ≡ None) ↔ (2 < n)
no-colour n = (above n, λ h. rw (ne_eqb n 0 (λ e. omega (arith, h, e)), ne_eqb n 1 (λ e. omega (arith, h, e)), ne_eqb n 2 (λ e. omega (arith, h, e))))
  where
    above : (n : ℕ) → colour_in n ≡ None → 2 < n
    above zero e = absurd (no-some Red e)
    above (suc zero) e = absurd (no-some Green e)
    above (suc (suc zero)) e = absurd (no-some Blue e)
    above (suc (suc (suc n))) e = omega arith

-- ---- the call of eleven numbers and a colour's number

-- a description and a colour that cross come to the same call
pub inverse-crosses : (d : Description) (table : List ℤ) (bits : Bits) (c : Colour) (wanted tolerance : ℕ)
    → inverse_in (eleven_of d) table bits (colour_place c) wanted tolerance ≡ inverse d table bits (aim_at c wanted tolerance)
inverse-crosses d table bits c wanted tolerance =
    call-crosses _ (λ e. inverse_for e table bits wanted tolerance (colour_in (colour_place c))) d
    ∙ ap (inverse_for d table bits wanted tolerance) (colour-crosses c)

-- the description and the colour that the numbers give
pub record Aimed (eleven : List ℤ) (colour : ℕ) : Type 0 where
  pub d : Description
  pub described : described_in eleven ≡ Some d
  pub c : Colour
  pub coloured : colour_in colour ≡ Some c

module _ (eleven table : List ℤ) (bits : Bits) (colour wanted tolerance : ℕ) where
  abbrev answer : Inverse
  answer = inverse_in eleven table bits colour wanted tolerance

  abbrev unread : Inverse
  unread = no_inverse CouldNotBeRead 0

  -- with a description and a colour it is the inverse of these
  inverse-aimed : {d : Description} {c : Colour} → described_in eleven ≡ Some d → colour_in colour ≡ Some c → answer ≡ inverse d table bits (aim_at c wanted tolerance)
  inverse-aimed {d} described coloured =
      called-described _ (λ d. inverse_for d table bits wanted tolerance (colour_in colour)) eleven described ∙ ap (inverse_for d table bits wanted tolerance) coloured

  -- without either it is 24
  inverse-undescribed : described_in eleven ≡ None → answer ≡ unread
  inverse-undescribed e = called-none _ (λ d. inverse_for d table bits wanted tolerance (colour_in colour)) eleven e

  inverse-uncoloured : 2 < colour → answer ≡ unread
  inverse-uncoloured h = called-each (λ r. r ≡ unread) refl (λ d. ap (inverse_for d table bits wanted tolerance) ((no-colour colour).1 h)) eleven

  -- what holds of that refusal and of every inverse holds of the call
  inverse-each : (P : Inverse → Type 0) → P unread → ((d : Description) (aim : Aim) → P (inverse d table bits aim)) → P answer
  inverse-each P r each = called-each P r (λ d. by d (colour_in colour)) eleven
    where
      by : (d : Description) (o : Option Colour) → P (inverse_for d table bits wanted tolerance o)
      by d None = r
      by d (Some c) = each d (aim_at c wanted tolerance)

  -- and where something holds of the call and not of that refusal, a description and a colour were given
  aimed : (Fine : Inverse → Type 0) → (Fine unread → ⊥) → Fine answer → Aimed eleven colour
  aimed Fine not-fine fine = by (colour_in colour) refl
    where
      g : Given (λ d. inverse_for d table bits wanted tolerance (colour_in colour)) eleven answer
      g = given eleven Fine not-fine fine

      by : (o : Option Colour) → colour_in colour ≡ o → Aimed eleven colour
      by None e = absurd (not-fine (subst Fine (g.answer-so ∙ ap (inverse_for g.d table bits wanted tolerance) e) fine))
      by (Some c) e = record { d = g.d; described = g.described; c = c; coloured = e }

-- ---- two answers of the call that meet its promise are equal, and so is everything that was lent

pub inverts-c-one : {eleven table : List ℤ} {bits : Bits} {colour wanted tolerance m n a b k l : ℕ} → InvertsC eleven table bits colour wanted tolerance m a k
    → InvertsC eleven table bits colour wanted tolerance n b l → (m ≡ n) × (a ≡ b) × (k ≡ l)
inverts-c-one p q = (p.number_so ∙ sym q.number_so, p.code_so ∙ sym q.code_so, p.count_so ∙ sym q.count_so)

-- ---- an answer

-- what acceptance says: the code and the count are right
pub record InverseAccepted (eleven table : List ℤ) (bits : Bits) (colour wanted tolerance code' count' : ℕ) : Type 0 where
  pub aim : Aimed eleven colour
  pub right : AcceptedRight aim.d table bits (aim_at aim.c wanted tolerance) code' count'

-- what 28 says: no raw code comes within the tolerance
pub record Inverse28 (eleven table : List ℤ) (bits : Bits) (colour wanted tolerance : ℕ) : Type 0 where
  pub aim : Aimed eleven colour
  pub passed : InversePassed aim.d table bits (aim_at aim.c wanted tolerance)
  pub none-reached : ReachedIn aim.d table passed.depths (aim_at aim.c wanted tolerance) → ⊥

-- a code fits 16 bits, and a count is at most that of the codes of 16 bits
abbrev Fits : Inverse → Type 0
Fits r = (inverse_code r ≤ 65_535) × (inverse_count r ≤ 65_536)

inverse-fits : (d : Description) (table : List ℤ) (bits : Bits) (aim : Aim) → Fits (inverse d table bits aim)
inverse-fits d table bits aim = by _ ((inverse-exactly d table bits aim _).0 refl)
  where
    by : (r : Inverse) → InverseGiven d table bits aim r → Fits r
    by r (not-read e) = (omega arith, omega arith)
    by r (unknown l e k) = (omega arith, omega arith)
    by r (too-great l e depths k above) = (omega arith, omega arith)
    by r (none_within p unreached) = (omega arith, omega (arith, (depths-bounds bits p.depths p.known).0.1))
    by r (answered p right) =
        let most = (depths-bounds bits p.depths p.known).0.1 in
        (omega (arith, most, right.nearest.inside), omega (arith, most, count_most right))

module _
    {eleven table : List ℤ} {bits : Bits} {colour wanted tolerance number code' count' : ℕ}
    (h : InvertsC eleven table bits colour wanted tolerance number code' count')
  where
    abbrev answered-so : Inverse
    answered-so = answer eleven table bits colour wanted tolerance

    -- what the call answers, by its three numbers
    so-answered : {r : Inverse} → answered-so ≡ r → (number ≡ inverse_number r) × (code' ≡ inverse_code r) × (count' ≡ inverse_count r)
    so-answered e = (h.number_so ∙ ap inverse_number e, h.code_so ∙ ap inverse_code e, h.count_so ∙ ap inverse_count e)

    -- the call is that of the description that the eleven numbers give, and of the colour: 0 is red, 1 green, 2 blue
    pub inverts-c-aimed : {d : Description} {c : Colour} → described_in eleven ≡ Some d → colour_in colour ≡ Some c → let r = inverse d table bits (aim_at c wanted tolerance) in
        (number ≡ inverse_number r) × (code' ≡ inverse_code r) × (count' ≡ inverse_count r)
    inverts-c-aimed described coloured = so-answered (inverse-aimed eleven table bits colour wanted tolerance described coloured)

    -- where they give none, or the number is that of no colour, it is 24 with zeros
    pub inverts-c-undescribed : described_in eleven ≡ None → (number ≡ 24) × (code' ≡ 0) × (count' ≡ 0)
    unfolding refusal_number
    inverts-c-undescribed e = so-answered (inverse-undescribed eleven table bits colour wanted tolerance e)

    pub inverts-c-uncoloured : 2 < colour → (number ≡ 24) × (code' ≡ 0) × (count' ≡ 0)
    unfolding refusal_number
    inverts-c-uncoloured above = so-answered (inverse-uncoloured eleven table bits colour wanted tolerance above)

    -- the call answers 0, 20, 23, 24 or 28
    pub inverts-c-number : OneOf number (0 ∷ 20 ∷ 23 ∷ 24 ∷ 28 ∷ [])
    unfolding refusal_number
    inverts-c-number =
        subst (λ n. OneOf n (0 ∷ 20 ∷ 23 ∷ 24 ∷ 28 ∷ [])) (sym h.number_so)
        (inverse-each eleven table bits colour wanted tolerance (λ r. OneOf (inverse_number r) (0 ∷ 20 ∷ 23 ∷ 24 ∷ 28 ∷ [])) (inr (inr (inr (inl refl))))
        (λ d aim. inverts-numbers (kept d aim)))
      where
        kept : (d : Description) (aim : Aim) → Inverts d table bits aim (inverse d table bits aim)
        kept d aim = is-inverts refl

    -- with a description and a colour, each where the inverse gives it
    pub inverts-c-exactly : {d : Description} {c : Colour} → described_in eleven ≡ Some d → colour_in colour ≡ Some c → (n : ℕ)
        → (number ≡ n) ↔ NumberGiven d table bits (aim_at c wanted tolerance) n
    inverts-c-exactly {d} {c} described coloured n =
        let e = (inverts-c-aimed described coloured).0 in
        let exactly = inverts-exactly {r = inverse d table bits (aim_at c wanted tolerance)} (is-inverts refl) n in
        (λ z. exactly.0 (sym e ∙ z), λ g. e ∙ exactly.1 g)

    -- the code fits 16 bits, and the count the 64 that it is given: it is at most 65,536
    pub inverts-c-fits : (code' ≤ 65_535) × (count' ≤ 65_536)
    inverts-c-fits =
        let fits = inverse-each eleven table bits colour wanted tolerance Fits (omega arith, omega arith) (λ d aim. inverse-fits d table bits aim) in
        (omega (arith, h.code_so, fits.0), omega (arith, h.count_so, fits.1))

    -- a refusal writes code 0, and but for 28 a count of 0
    pub inverse-refused : (number ≡ 0 → ⊥) → (code' ≡ 0) × ((number ≡ 28 → ⊥) → count' ≡ 0)
    inverse-refused not-0 =
        let none_Tried = inverse-each eleven table bits colour wanted tolerance Uncounted (λ m n. refl) (λ d aim. uncounted d aim) in (
          h.code_so ∙ refused-code answered-so (λ z. not-0 (h.number_so ∙ z)),
          λ not-28. h.count_so ∙ none_Tried (λ z. not-0 (h.number_so ∙ z)) (λ z. not-28 (h.number_so ∙ z)),
        )
      where
        Uncounted : Inverse → Type 0
        Uncounted r = (inverse_number r ≡ 0 → ⊥) → (inverse_number r ≡ 28 → ⊥) → inverse_count r ≡ 0

        uncounted : (d : Description) (aim : Aim) → Uncounted (inverse d table bits aim)
        uncounted d aim = count-before {r = inverse d table bits aim} (is-inverts refl)

    pub inverse-accepted : number ≡ 0 → InverseAccepted eleven table bits colour wanted tolerance code' count'
    inverse-accepted z =
        let a = aimed eleven table bits colour wanted tolerance (λ r. inverse_number r ≡ 0) (refused-not-0 CouldNotBeRead) (sym h.number_so ∙ z) in
        let so = inverts-c-aimed a.described a.coloured in
        let accepted = by-its-numbers (inverse a.d table bits (aim_at a.c wanted tolerance)) (sym so.0 ∙ z) in
        record { aim = a; right = inverse-right (accepted ∙ (λ i. inverse_of (sym so.1 i) (sym so.2 i))) }
      where
        by-its-numbers : (r : Inverse) → inverse_number r ≡ 0 → r ≡ inverse_of (inverse_code r) (inverse_count r)
        by-its-numbers (Ok x) e = refl
        by-its-numbers (Err x) e = absurd (refused-not-0 x.reason e)

    -- 28 exactly where no raw code comes within the tolerance
    pub inverts-c-28 : (number ≡ 28) ↔ Inverse28 eleven table bits colour wanted tolerance
    unfolding refusal_number
    inverts-c-28 = (of, λ t. (inverts-c-exactly t.aim.described t.aim.coloured 28).1 (given-28 t.passed t.none-reached))
      where
        of : number ≡ 28 → Inverse28 eleven table bits colour wanted tolerance
        of z = by ((inverts-c-exactly a.described a.coloured 28).0 z)
          where
            a : Aimed eleven colour
            a = aimed eleven table bits colour wanted tolerance (λ r. inverse_number r ≡ 28) (λ e. omega (arith, e)) (sym h.number_so ∙ z)

            by : NumberGiven a.d table bits (aim_at a.c wanted tolerance) 28 → Inverse28 eleven table bits colour wanted tolerance
            by (given-28 p unreached) = record { aim = a; passed = p; none-reached = unreached }

    -- and then the count is that of all of them
    pub inverse-count-28 : number ≡ 28 → (depths : Depths) → depths_of bits ≡ Some depths → count' ≡ raw_m depths + 1
    inverse-count-28 z depths known =
        let t = inverts-c-28.0 z in
        let so = inverts-c-aimed t.aim.described t.aim.coloured in
        so.2 ∙ count-28 {r = inverse t.aim.d table bits (aim_at t.aim.c wanted tolerance)} (is-inverts refl) depths known (sym so.0 ∙ z)

-- ---- of a 1D table that an accepted reading wrote, and a colour, it is not 24

pub read-then-inverse : {file : List ℕ} {table table' eleven' : List ℤ} {line' : ℕ} → ReadsC file table 0 table' eleven' line' → number_at eleven' 0 ≡ pos 1
    → {bits : Bits} {colour wanted tolerance number code' count' : ℕ} → colour ≤ 2 → InvertsC eleven' table' bits colour wanted tolerance number code' count'
    → number ≡ 24 → ⊥
read-then-inverse {file} {table} {table'} {eleven'} {line'} h one {bits} {colour} {wanted} {tolerance} inside v e = by (colour_in colour) refl
  where
    a : ReadAccepted file table table' eleven' line'
    a = read-accepted h refl

    line : a.d.kind ≡ OneD
    line = kind-given eleven' OneD (ap kind_at one) a.d (read-bridge a).0

    by : (o : Option Colour) → colour_in colour ≡ o → ⊥
    by None c = omega (arith, inside, (no-colour colour).0 c)
    by (Some c) coloured =
        inverts-not-24 {r = inverse a.d table' bits (aim_at c wanted tolerance)} (is-inverts refl) line (read-bridge a).1
        (sym (inverts-c-aimed v (read-bridge a).0 coloured).0 ∙ e)
