-- The title's fields change no answer of look, its halves, picture and the inverse: none looks further than kind, N and the three domains.
use Prim.Native.Nat.{ℕ, ◌*◌}
use mathlib.Core.Path.{◌≡◌, refl, ap, ap₂}
use mathlib.Core.Bool.{cond}
use mathlib.Core.List.{List, ◌++◌}
use lib.IntN.{ℤ}
use lib.ListN.{length, drop}
use Rattle.rules.specs.Units.{raw_m, corrected_m, depth_of, depths_of, code_in}
use Rattle.rules.specs.Descriptions.{domain, width, one_domain, agree, common_span, span_in, roomy, could_be_read}
use Rattle.rules.specs.Looking.Interpolation.{den, index, fraction, brought, pair_by, den_of, code_by}
use Rattle.rules.specs.Looking.{line_code, rows_at, first_half, second_half, look_at, look}
use Rattle.rules.specs.Inverting.{inverse}
use Rattle.rules.specs.Answers.{codes_in}
use Rattle.rules.specs.Demands.{pixel_at}
use Rattle.rules.specs.Picturing.{corrected, picture, output_after}
use Rattle.rules.specs.declared.Aim.{Aim}
use Rattle.rules.specs.declared.Bits.{Bits}
use Rattle.rules.specs.declared.Codes.{Codes}
use Rattle.rules.specs.declared.Colour.{Colour}
use Rattle.rules.specs.declared.Colour.TheVariants.{Red, Green, Blue}
use Rattle.rules.specs.declared.Depths.{Depths}
use Rattle.rules.specs.declared.Description.{Description}
use Rattle.rules.specs.declared.Kind.{Kind}
use Rattle.rules.specs.declared.Kind.TheVariants.{OneD, ThreeD}
use Rattle.rules.specs.declared.Refusal.TheVariants.{CouldNotBeRead}
use Rattle.rules.specs.declared.Shares.{Shares}
use Rattle.rules.specs.declared.Title.{Title}
use Rattle.rules.proofs.Picturing.Checks.{each_same}
use Rattle.signature.proofs.Looking.SamePlaces.{SamePlaces, same-look, same_rows}
use Rattle.signature.proofs.Looking.SameShares.{same-given}
use Rattle.signature.proofs.Inverting.SameLines.{same_lines}
use Rattle.std.specs.Prelude.{Err, None, Ok, Option, Some}
use Rattle.rules.specs.declared.Depth.{Depth}
use Rattle.rules.specs.Results.{Picture}

-- the same description with another title
abbrev pub retitled : Description → Title → Description
retitled d t = record { kind = d.kind; n = d.n; red = d.red; green = d.green; blue = d.blue; title = t }

module _ (d : Description) (t : Title) where
  abbrev e : Description
  e = retitled d t

  same-domain : (c : Colour) → domain e c ≡ domain d c
  same-domain Red = refl
  same-domain Green = refl
  same-domain Blue = refl

  same_span : (k : Kind) (c : Colour) → span_in k e c ≡ span_in k d c
  unfolding common_span one_domain
  same_span OneD c = ap width (same-domain c)
  same_span ThreeD c = refl

  same-dens : (m : ℕ) (c : Colour) → den_of e m c ≡ den_of d m c
  same-dens m c = ap (λ s. m * s) (same_span d.kind c)

  -- ---- 24

  same-agree : (k : Kind) → agree k e ≡ agree k d
  unfolding agree one_domain
  same-agree OneD = refl
  same-agree ThreeD = refl

  pub same-24 : (table : List ℤ) → could_be_read e table ≡ could_be_read d table
  unfolding could_be_read roomy
  same-24 table = rw (same-agree d.kind)

  -- ---- look

  module _ (table : List ℤ) (pixel : Codes) where
    same-places : (m : ℕ) → SamePlaces m e d pixel pixel
    same-places m = record {
      kind = refl;
      n = refl;
      inside = refl;
      dens = same-dens m;
      indices = λ c. ap (λ dom. index m dom d.n (code_in pixel c)) (same-domain c);
      fractions = λ c i. brought (den m (same-domain c i)) (m * same_span d.kind c i) (fraction m (same-domain c i) d.n (code_in pixel c));
    }

    same_at : (x : Option Depths) → look_at e table pixel x ≡ look_at d table pixel x
    unfolding look_at
    same_at None = refl
    same_at (Some depths) = same-look table depths (same-places (raw_m depths))

    pub untitled-look : (bits : Bits) → look e table bits pixel ≡ look d table bits pixel
    unfolding look
    untitled-look bits = ap₂ (λ could x. cond could x (Err CouldNotBeRead)) (same-24 table) (same_at (depths_of bits))

    -- ---- its halves

    same-rows-at : (x : Option Depth) → rows_at e pixel x ≡ rows_at d pixel x
    same-rows-at None = refl
    same-rows-at (Some depth) = same_rows (same-places depth.greatest)

    pub untitled-first : (raw : ℕ) → first_half e table raw pixel ≡ first_half d table raw pixel
    unfolding first_half
    untitled-first raw = ap₂ (λ could x. cond could x (Err CouldNotBeRead)) (same-24 table) (same-rows-at (depth_of raw))

  pub untitled-second : (table : List ℤ) (bits : Bits) (shares : Shares) → second_half e table bits shares ≡ second_half d table bits shares
  unfolding second_half
  untitled-second table bits shares =
      ap₂ (λ could x. cond could x (Err CouldNotBeRead)) (same-24 table)
      (same-given table (λ m. record { count = refl; dens = same-dens m; shares = λ c. refl }) (depths_of bits))

  -- ---- picture

  pub untitled-picture : (table : List ℤ) (bits : Bits) (src : List ℕ) (places : ℕ) → picture e table bits src places ≡ picture d table bits src places
  unfolding picture
  untitled-picture table bits src places = rw (same-24 table)

  same-corrected : (table : List ℤ) (bits : Bits) (src : List ℕ) → corrected e table bits src ≡ corrected d table bits src
  same-corrected table bits src = each_same _ _ src (λ k h. ap codes_in (untitled-look table (pixel_at src k) bits))

  pub untitled-output : (table : List ℤ) (bits : Bits) (src dst : List ℕ) (r : Picture) → output_after e table bits src dst r ≡ output_after d table bits src dst r
  unfolding output_after
  untitled-output table bits src dst (Ok _) = ap (λ x. x ++ drop (length src) dst) (same-corrected table bits src)
  untitled-output table bits src dst (Err r) = refl

  -- ---- the inverse

  same_line : (table : List ℤ) (depths : Depths) (c : Colour) → line_code e table depths c ≡ line_code d table depths c
  same_line table depths c i raw =
      let m = raw_m depths in
      let dom = same-domain c i in
      let common = same-dens m c i in
      code_by (corrected_m depths) common table c (pair_by common (index m dom d.n raw) (brought (den m dom) common (fraction m dom d.n raw)))

  pub untitled-inverse : (table : List ℤ) (bits : Bits) (aim : Aim) → inverse e table bits aim ≡ inverse d table bits aim
  untitled-inverse table bits aim = same_lines e d table table bits aim refl (same-24 table) (λ line read depths. same_line table depths aim.colour)
