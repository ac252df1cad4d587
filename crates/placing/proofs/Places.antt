-- The plan of one depth for raw and corrected codes: p / q is 1 / 1, its numbers fit, and its places are those of the rule.
use Prim.Native.Nat.{ℕ, ◌-◌, ◌/◌, ◌≤◌, ◌<◌}
use mathlib.Core.Path.{◌≡◌, refl, sym, ap, ap₂, subst, ◌∙◌}
use native.Mathlib.Nat as NatL
use native.Mathlib.Omega.{arith}
use Rattle.whole.specs.Divisors.{gcd}
use Rattle.whole.proofs.Divisors.{gcd-step, gcd-end}
use Rattle.rules.specs.Units.{same_depth, stride}
use Rattle.rules.specs.Descriptions.{domain, span}
use Rattle.rules.specs.declared.Colour.{Colour}
use Rattle.rules.specs.declared.Depth.{Depth}
use Rattle.rules.specs.declared.Description.{Description}
use Rattle.rules.proofs.Sound.{wide_enough}
use Rattle.rules.proofs.Looking.Spans.{span-some, in_parts}
use Rattle.colour.specs.Ratios.{ratio_of, InTerms}
use Rattle.colour.specs.Plans.{plan_of, axis_in, Readable, Planned}
use Rattle.colour.specs.Places.{AxisFits, CellsFit, place_of}
use Rattle.colour.specs.Lines.{line_of}
use Rattle.colour.specs.declared.lines.Line.{Line}
use Rattle.colour.specs.declared.place.Place.{Place}
use Rattle.colour.specs.declared.plan.Plan.{Plan}
use Rattle.colour.proofs.Placing.{place_is}
use Rattle.colour.proofs.Plans.{sound, axis-of, cells_fit, axis-fits}
use Rattle.placing.specs.Shown.{place_at}

-- ---- one depth for both

gcd-self : (m : ℕ) → 0 < m → gcd m m ≡ m
gcd-self m deep = gcd-step m m deep ∙ ap (gcd m) (NatL.mod_self m) ∙ gcd-end m

module _ (raw : Depth) (deep : 0 < raw.greatest) where
  same-ratio : ratio_of (same_depth raw) ≡ record { top = 1; bottom = 1 }
  unfolding ratio_of
  same-ratio =
      let m = raw.greatest in
      let one : m / gcd m m ≡ 1 = rw (gcd-self m deep) (NatL.div_self deep) in
      ap₂ (λ p q. record { top = p; bottom = q }) one one

  module _ (most : raw.greatest ≤ 65535) where
    pub same-in-terms : InTerms (ratio_of (same_depth raw)) (same_depth raw)
    same-in-terms = rw same-ratio (record { exact = omega arith; some = omega arith; bottom_most = omega arith; product_most = omega arith })

    -- ---- its plan

    module _ (d : Description) (r : Readable d) where
      planned-for : Planned (plan_of d (same_depth raw)) r.0
      planned-for = record {
        d = d;
        depths = same_depth raw;
        could = r.1;
        deep = deep;
        most = most;
        corrected_most = most;
        in_terms = same-in-terms;
        is = refl;
      }

      place-on : (c : Colour) (code : ℕ) → place_of (axis_in (plan_of d (same_depth raw)) c) (d.n - 1) code ≡ place_at d raw.greatest c code
      place-on c code =
          let good = sound d r in
          let q = (ratio_of (same_depth raw)).bottom in
          ap (λ x. place_of x (d.n - 1) code) (axis-of d (same_depth raw) c)
          ∙ place_is (domain d c) (span d c) (in_parts d good c) (wide_enough (good.domains c)) raw.greatest q d.n (stride d.n c) code
          (span-some d good c) deep good.least

      module _ {plan : Plan} {line : Line} (c : Colour) (made : plan ≡ plan_of d (same_depth raw)) (drawn : line ≡ line_of plan c) where
        is-line : line ≡ line_of (plan_of d (same_depth raw)) c
        is-line = drawn ∙ ap (λ x. line_of x c) made

        pub line-fits : AxisFits line.axis × CellsFit line.cells
        line-fits = subst (λ x. AxisFits x.axis × CellsFit x.cells) (sym is-line) (axis-fits planned-for c, cells_fit planned-for)

        pub line-place : {p : Place} (code : ℕ) → p ≡ place_of line.axis line.cells code → p ≡ place_at d raw.greatest c code
        line-place code e = e ∙ ap (λ x. place_of x.axis x.cells code) is-line ∙ place-on c code
