-- Each way of a pass gives look's codes of its colour, and the passes of the three colours give those of all pixels: a place below the length of the picture
-- is one colour's, and the other two passes leave it as it is.
use Prim.Native.Nat.{ℕ, zero, suc, ◌+◌, ◌-◌, ◌*◌, ◌/◌, ◌%◌, ◌≤◌, ◌<◌}
use mathlib.Core.Path.{◌≡◌, refl, sym, ap, subst, ◌∙◌}
use mathlib.Core.List.{List, ◌++◌}
use native.Mathlib.Decide.{dec_lt}
use native.Mathlib.Omega.{arith}
use lib.IntN.{ℤ}
use lib.ListN.{length, get_or, drop, length-append, length-drop, get_or-append}
use lib.Seq.{get_or-append-add, get_or-drop, ext_get_or}
use Rattle.rules.specs.Units.{raw_m, corrected_m, colour_place, code_in}
use Rattle.rules.specs.Looking.{line_code, correct}
use Rattle.rules.specs.Picturing.{each_pixel}
use Rattle.rules.specs.Demands.{pixel_at}
use Rattle.rules.specs.declared.Colour.{Colour}
use Rattle.rules.specs.declared.Colour.TheVariants.{Red, Green, Blue}
use Rattle.rules.specs.declared.Depths.{Depths}
use Rattle.rules.specs.declared.Description.{Description}
use Rattle.rules.specs.declared.Kind.TheVariants.{OneD}
use Rattle.rules.proofs.Colours.{place-below, code-at-place}
use Rattle.rules.proofs.Looking.Demand3.{line-looked}
use Rattle.rules.proofs.Picturing.Checks.{each-length, each_at}
use Rattle.colour.specs.Plans.{Planned}
use Rattle.colour.specs.Lines.{line_of, Lined}
use Rattle.colour.specs.declared.lines.Line.{Line}
use Rattle.colour.specs.declared.plan.Plan.{Plan}
use Rattle.strips.specs.Strips.{LineAt, StrippedFor}
use Rattle.strips.specs.declared.Strip.{Strip}
use Rattle.picture.specs.Filling.{Fillable, Inside}
use Rattle.picture.specs.Passes.{line_by, strip_by, Passable, Passed}

-- ---- a strip of the line

module _ {line : Line} {table : List ℤ} {raw most : ℕ} (l : LineAt line table raw most) {strip : Strip}
    (q : StrippedFor l.lined.planned.d l.lined.planned.depths line.colour strip table) {src : List ℕ} where
  pub strip-inside : Inside raw src → Inside (raw_m q.stripped.lined.planned.depths) src
  strip-inside i = subst (λ m. Inside m src) (l.raw_is ∙ ap raw_m (sym q.depths_are)) i

  pub strip-passed : {first : ℕ} {dst dst' : List ℕ} → Passed (strip_by q.stripped) first src dst dst' → Passed (line_by l.lined) first src dst dst'
  strip-passed {first} {dst} {dst'} p =
      let d = l.lined.planned.d in
      let by-d = subst (λ x. Passed (line_code x table q.stripped.lined.planned.depths strip.colour) first src dst dst') q.d_is p in
      let by-depths = subst (λ x. Passed (line_code d table x strip.colour) first src dst dst') q.depths_are by-d in
      subst (λ x. Passed (line_code d table l.lined.planned.depths x) first src dst dst') q.colour_is by-depths

-- ---- a colour of a plan

pub passable : {src : List ℕ} {places : ℕ} (c : Colour) → length src ≤ places → {first : ℕ} → first ≡ colour_place c → Passable first src places
passable c room e = record { of_three = subst (λ x. x < 3) (sym e) (place-below c); room = room }

pub one-d-so : {plan : Plan} {table : List ℤ} (p : Planned plan table) → plan.kind ≡ OneD → p.d.kind ≡ OneD
one-d-so p k = sym (ap (λ x. x.kind) p.is) ∙ k

module _ {plan : Plan} {table : List ℤ} {c : Colour} (p : Planned plan table) (one_d : plan.kind ≡ OneD) {line : Line} (is : line ≡ line_of plan c) where
  abbrev colour-so : line.colour ≡ c
  colour-so = ap (λ x. x.colour) is

  abbrev pub lined-so : Lined line table
  lined-so = record { plan = plan; planned = p; one_d = one-d-so p one_d; is = is ∙ ap (line_of plan) (sym colour-so) }

  pub colour-passed : (depths : Depths) {src dst dst' : List ℕ} → Passed (line_code p.d table depths line.colour) (colour_place line.colour) src dst dst'
      → Passed (line_code p.d table depths c) (colour_place c) src dst dst'
  colour-passed depths {src} {dst} {dst'} s = subst (λ x. Passed (line_code p.d table depths x) (colour_place x) src dst dst') colour-so s

-- a line, at its depths
module _ {line : Line} {table : List ℤ} {depths : Depths} (l : Lined line table) (e : l.planned.depths ≡ depths) where
  abbrev pub line_at : {raw most : ℕ} → raw ≡ raw_m depths → most ≡ corrected_m depths → LineAt line table raw most
  line_at r m = record { lined = l; raw_is = r ∙ ap raw_m (sym e); most_is = m ∙ ap corrected_m (sym e) }

  pub line-passed : {first : ℕ} → first ≡ colour_place line.colour → {src dst dst' : List ℕ} → Passed (line_by l) first src dst dst'
      → Passed (line_code l.planned.d table depths line.colour) (colour_place line.colour) src dst dst'
  line-passed f {src} {dst} {dst'} s =
      let by_place = subst (λ x. Passed (line_by l) x src dst dst') f s in
      subst (λ x. Passed (line_code l.planned.d table x line.colour) (colour_place line.colour) src dst dst') e by_place

-- ---- all three

-- the code of a colour stands at its place in the picture
code-in-picture : (src : List ℕ) (k : ℕ) (c : Colour) → code_in (pixel_at src k) c ≡ get_or src (3 * k + colour_place c) 0
code-in-picture src k Red = ap (λ x. get_or src x 0) (omega arith)
code-in-picture src k Green = refl
code-in-picture src k Blue = refl

module _ (d : Description) (table : List ℤ) (depths : Depths) (one_d : d.kind ≡ OneD) (src : List ℕ) where
  -- the output at a colour's places
  look-there : length src % 3 ≡ 0 → (k : ℕ) (c : Colour) → k < length src → k % 3 ≡ colour_place c
      → line_code d table depths c (get_or src k 0) ≡ get_or (each_pixel (correct d table depths) src) k 0
  look-there full k c h e =
      let q = k / 3 in
      let at : 3 * q + colour_place c ≡ k = omega (arith, e) in
      sym
      (ap (λ x. get_or (each_pixel (correct d table depths) src) x 0) (sym at)
      ∙ each_at (correct d table depths) src q (colour_place c) (place-below c) (omega (arith, full, h, e))
      ∙ code-at-place (correct d table depths (pixel_at src q)) c
      ∙ line-looked d table one_d depths (pixel_at src q) c
      ∙ ap (line_code d table depths c) (code-in-picture src q c ∙ ap (λ x. get_or src x 0) at))

  module _ (dst : List ℕ) (fill : Fillable src (length dst)) {red green blue : List ℕ} (r : Passed (line_code d table depths Red) 0 src dst red) (g : Passed (line_code d table depths Green) 1 src red green)
      (b : Passed (line_code d table depths Blue) 2 src green blue) where
    abbrev whole : List ℕ
    whole = each_pixel (correct d table depths) src

    as_long : length whole ≡ length src
    as_long = each-length (correct d table depths) src fill.whole

    inside : (k : ℕ) → k < length src → get_or blue k 0 ≡ get_or whole k 0
    inside k h = by (k % 3) refl
      where
        by : (j : ℕ) → k % 3 ≡ j → get_or blue k 0 ≡ get_or whole k 0
        by zero e = b.other k (λ x. omega (arith, x, e)) ∙ g.other k (λ x. omega (arith, x, e)) ∙ r.made k h e ∙ look-there fill.whole k Red h e
        by (suc zero) e = b.other k (λ x. omega (arith, x, e)) ∙ g.made k h e ∙ look-there fill.whole k Green h e
        by (suc (suc zero)) e = b.made k h e ∙ look-there fill.whole k Blue h e
        by (suc (suc (suc j))) e = absurd (omega (arith, e))

    beyond : (k : ℕ) → length src ≤ k → get_or blue k 0 ≡ get_or (whole ++ drop (length src) dst) k 0
    beyond k h =
        let there : k ≡ length whole + (k - length src) = omega (arith, as_long) in
        b.later k h
        ∙ g.later k h
        ∙ r.later k h
        ∙ sym
        (ap (λ x. get_or (whole ++ drop (length src) dst) x 0) there
        ∙ get_or-append-add whole (drop (length src) dst) (k - length src) 0
        ∙ get_or-drop (length src) dst (k - length src) 0
        ∙ ap (λ x. get_or dst x 0) (omega arith))

    pub three-passed : blue ≡ whole ++ drop (length src) dst
    three-passed = ext_get_or 0 blue (whole ++ drop (length src) dst) same-long each
      where
        same-long : length blue ≡ length (whole ++ drop (length src) dst)
        same-long = omega (arith, b.long, g.long, r.long, length-append whole (drop (length src) dst), length-drop (length src) dst, as_long, fill.room)

        each : (k : ℕ) → k < length blue → get_or blue k 0 ≡ get_or (whole ++ drop (length src) dst) k 0
        each k h = by (dec_lt k (length src))
          where
            by : Dec (k < length src) → get_or blue k 0 ≡ get_or (whole ++ drop (length src) dst) k 0
            by (yes l) = inside k l ∙ sym (get_or-append whole (drop (length src) dst) 0 k (omega (arith, as_long)))
            by (no l) = beyond k (omega (arith, l))
