-- The facts of a colour are one only, and the code that is given is the one that they tell.
use Prim.Native.Nat.{ℕ, ◌<◌}
use mathlib.Core.Path.{◌≡◌, sym, ap, subst, ◌∙◌}
use mathlib.Core.Bool.{true}
use mathlib.Core.List.{List}
use lib.IntN.{ℤ, pos, ◌*ℤ◌}
use Rattle.whole.specs.Nearest.{code}
use Rattle.rules.specs.Units.{depths_of, raw_m, corrected_m, code_in}
use Rattle.rules.specs.Descriptions.{could_be_read}
use Rattle.rules.specs.Looking.Interpolation.{code_by}
use Rattle.rules.specs.Looking.{rows_with, code_of, codes_by, look_by}
use Rattle.rules.specs.Answers.{look_number}
use Rattle.rules.specs.Promises.{Looks}
use Rattle.rules.specs.declared.Bits.{Bits}
use Rattle.rules.specs.declared.Codes.{Codes}
use Rattle.rules.specs.declared.Colour.{Colour}
use Rattle.rules.specs.declared.Depths.{Depths}
use Rattle.rules.specs.declared.Description.{Description}
use Rattle.rules.specs.declared.Looked.{Looked}
use Rattle.rules.specs.declared.Shares.{Shares}
use Rattle.rules.proofs.Answers.{looks-is, refused-not-0}
use Rattle.rules.proofs.Looking.Checks.{look-passed, look-joins}
use Rattle.rules.proofs.Looking.Demand3.{code-by}
use Rattle.exact.specs.Values.{settled_as, settled_code, Apart}
use Rattle.exact.specs.declared.codes.InCodes.{InCodes}
use Rattle.exact.specs.declared.ratio.Ratio.{Ratio}
use Rattle.exact.proofs.Fractions.{lowest-one}
use Rattle.exact.proofs.CodeValues.{quotient-one, value-one}
use Rattle.exact.proofs.Distances.{distance-one}
use Rattle.exact.proofs.Settling.{settled-code}
use Rattle.facts.specs.Told.{Told, FactsOf, Parted}
use Rattle.facts.specs.declared.parts.Parts.{Parts}
use Rattle.facts.specs.declared.told.Facts.{Facts}
use Rattle.std.specs.Prelude.{Err, Ok, Some}
use Rattle.rules.specs.Results.{FirstHalf, Look, look_of}

-- ---- the parts of a ratio are one only

pub parts-one : {r : Ratio} {p q : Parts} → Parted r p → Parted r q → p ≡ q
parts-one {r} {p} {q} a b =
    let (wholes, rests) = quotient-one p.whole q.whole r.bottom p.rest q.rest a.below b.below (a.same ∙ sym b.same) in
    same_parts wholes rests
  where
    same_parts : p.whole ≡ q.whole → p.rest ≡ q.rest → p ≡ q
    same_parts w l i = record { whole = w i; rest = l i }

module _ {s : ℤ} {e m given : ℕ} where
  there : {f : Facts} → Told s e m given f → 0 < e
  there t = subst (λ n. 0 < n) t.over t.some

  -- ---- and so are the facts

  pub facts-one : {f g : Facts} → Told s e m given f → Told s e m given g → f ≡ g
  facts-one {f} {g} p q =
      let values = value-one (there p) p.value q.value in
      same-facts (p.sum ∙ sym q.sum) (p.over ∙ sym q.over) (lowest-one (there p) p.lowest q.lowest) values
      (p.settled ∙ ap (λ (v : InCodes). settled_as s e v.rest v.unit) values ∙ sym q.settled)
      (distance-one (subst (λ v. Apart given v f.distance) values p.distance) q.distance)
    where
      same-facts : f.sum.0 ≡ g.sum.0 → f.over ≡ g.over → f.lowest ≡ g.lowest → f.value ≡ g.value → f.settled ≡ g.settled
          → f.distance ≡ g.distance → f ≡ g
      same-facts a b c d e h i = record { sum = record { 0 = a i }; over = b i; lowest = c i; value = d i; settled = e i; distance = h i }

  -- ---- the nearest code is the one that the facts tell

  pub nearest-told : {f : Facts} → Told s e m given f → pos (code (pos m *ℤ s) e m) ≡ settled_code m f.value f.settled
  nearest-told {f} t = settled-code (there t) t.value ∙ ap (settled_code m f.value) (sym t.settled)

-- ---- and so is the code that is given

module _ (d : Description) (table : List ℤ) (depths : Depths) (shares : Shares) (c : Colour) where
  pub code-told : {given : ℕ} {f : Facts} → FactsOf d table depths shares c given f
      → pos (code_of d table depths shares c) ≡ settled_code (corrected_m depths) f.value f.settled
  unfolding code_by
  code-told t = nearest-told t

  -- among the codes of all three colours
  pub codes-told : {codes : Codes} → codes ≡ codes_by d table depths shares → {given : ℕ} {f : Facts} → FactsOf d table depths shares c given f
      → pos (code_in codes c) ≡ settled_code (corrected_m depths) f.value f.settled
  codes-told is t = ap pos (ap (λ x. code_in x c) is ∙ code-by d table depths shares c) ∙ code-told t

-- ---- of a look that is accepted

-- what a look answers, if it is accepted
abbrev looked_or : Looked → Look → Looked
looked_or other (Ok x) = x
looked_or other (Err _) = other

module _ {d : Description} {table : List ℤ} {bits : Bits} {pixel : Codes} {r : Look} (l : Looks d table bits pixel r)
    {codes : Codes} {shares : Shares} (e : r ≡ look_of codes shares) (depths : Depths) (known : depths_of bits ≡ Some depths) where
  -- its codes are those of its rows and weights
  pub look-codes : codes ≡ codes_by d table depths shares
  look-codes = by (rows_with d (raw_m depths) pixel) (sym (look-joins d table bits pixel depths could known) ∙ sym (looks-is l) ∙ e)
    where
      could : could_be_read d table ≡ true
      could = (look-passed d table bits pixel (sym l.number ∙ ap look_number e)).could

      by : (f : FirstHalf) → look_by d table depths f ≡ look_of codes shares → codes ≡ codes_by d table depths shares
      by (Ok found) q =
          let same = ap (looked_or (record { codes = codes; shares = shares })) q in
          sym (ap (λ x. x.codes) same) ∙ ap (λ x. codes_by d table depths x.shares) same
      by (Err reason) q = absurd (refused-not-0 reason (ap look_number q))

  pub look-told : (c : Colour) {given : ℕ} {f : Facts} → FactsOf d table depths shares c given f
      → pos (code_in codes c) ≡ settled_code (corrected_m depths) f.value f.settled
  look-told c t = codes-told d table depths shares c look-codes t
