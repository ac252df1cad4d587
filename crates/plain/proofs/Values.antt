-- A number in the plain shape spells one of the grammar, and the value that is worked out for it is its exact value.
use Prim.Native.Nat.{ℕ, ◌+◌, ◌-◌, ◌*◌, ◌^◌, ◌≤◌, ◌<◌}
use mathlib.Core.Path.{◌≡◌, refl, sym, ap, ap₂, subst, ◌∙◌}
use mathlib.Core.Bool.{Bool, true, false}
use mathlib.Core.List.{List, [], ◌∷◌, ◌++◌, append-nil}
use native.Mathlib.Nat.{add-mul, add-zero, mul_assoc, mul_comm, mul-le-mul_right, mul-one, sub_self}
use native.Mathlib.Omega.{arith}
use mir.Syntax.{w64}
use mir.Val.{of_z, to_z}
use lib.IntN.{ℤ, pos, neg_ℤ, nat_abs, ◌-ℤ◌, ◌*ℤ◌, +ℤ_idl}
use lib.ListN.{length, get_or, take, drop}
use lib.Pow.{pow-add}
use Rattle.whole.proofs.Held.{Held, cast, of, sub}
use Rattle.rules.specs.Reading.Lines.{digit, every, number_byte}
use Rattle.rules.specs.Reading.Numerals.{Mantissa, Numeral, Sign, absent, digits, minus, plain, pointed, signed, spell, under, unwritten}
use Rattle.rules.proofs.Reading.Numbers.{digits_more, digits-parts, first-digit, number-digit, signed-abs, signed-times, spell-append}
use Rattle.rules.proofs.Reading.Runs.{append-every, every_append, every-other}
use Rattle.numbers.specs.Parts.{part}
use Rattle.numbers.proofs.Digits.{spell-after, spell-less}
use Rattle.plain.specs.Shapes.{NumberAt, Spelt, UnsignedAt}
use Rattle.plain.specs.declared.digits.Digits.{Digits}
use Rattle.plain.proofs.Pieces.{piece_cut, piece-length, piece_of}
use Rattle.plain.proofs.Spelling.{spelt-less}

-- ---- digits found, as a piece of the file

pub record Piece (s : List ℕ) (from most : ℕ) (d : Digits) : Type 0 where
  pub few : length (part s from d.next) ≤ most
  pub end : d.next ≡ from + length (part s from d.next)
  pub all : every digit (part s from d.next) ≡ true
  pub value_so : d.value ≡ spell 0 (part s from d.next)
  pub less : d.value < 10 ^ length (part s from d.next)

pub piece : {s : List ℕ} {from most : ℕ} {d : Digits} → from + most ≤ length s → Spelt s from 0 most d → Piece s from most d
piece {s} {from} {most} {d} h f =
    let same : part s from d.next ≡ take f.count (drop from s) = piece_of s from f.count d.next f.next_so in
    let long : length (part s from d.next) ≡ d.next - from = piece-length s from d.next (omega (arith, f.next_so)) (omega (arith, f.next_so, f.few)) in
    let all_so : every digit (part s from d.next) ≡ true = ap (every digit) same ∙ f.all in
    let value-is : d.value ≡ spell 0 (part s from d.next) = f.value_so ∙ ap (spell 0) (sym same) in
    record {
      few = omega (arith, long, f.next_so, f.few);
      end = omega (arith, long, f.next_so);
      all = all_so;
      value_so = value-is;
      less = rw value-is (spell-less _ all_so);
    }

-- ---- without its sign

-- three digits before the point are less than a thousand
pub whole-less : {s : List ℕ} {at : ℕ} {w : Digits} → Piece s at 3 w → w.value ≤ 999
whole-less p = omega (arith, p.value_so, spelt-less 0 0 3 _ (omega arith) p.few p.all)

module _ {s : List ℕ} {from : ℕ} {f : Digits} (p : Piece s from 7 f) {unit : ℕ} (e : unit ≡ 10 ^ (7 - (f.next - from))) where
  abbrev t : ℕ
  t = 10 ^ length (part s from f.next)

  -- a unit of the last decimal, with as many zeros as there are decimals, is a whole one
  whole-unit : unit * t ≡ 10_000_000
  whole-unit =
      let left : 7 - (f.next - from) ≡ 7 - length (part s from f.next) = omega (arith, p.end) in
      let all : 7 - length (part s from f.next) + length (part s from f.next) ≡ 7 = omega (arith, p.few) in
      ap (λ u. u * t) (e ∙ ap (λ k. 10 ^ k) left)
      ∙ sym (pow-add 10 (7 - length (part s from f.next)) (length (part s from f.next)))
      ∙ ap (λ k. 10 ^ k) all

  -- the decimals together are less than it
  pub decimals-less : f.value * unit ≤ 10_000_000
  decimals-less =
      let more : (f.value + 1) * unit ≤ t * unit = mul-le-mul_right unit (omega (arith, p.less)) in
      omega (arith, add-mul f.value 1 unit, mul_comm t unit, whole-unit)

-- whole units and decimals, and the digits of both in one
sum_of : (w f u t all : ℕ) → u * t ≡ all → (w * all + f * u) * t ≡ (w * t + f) * all
sum_of w f u t all e =
    let whole : w * all * t ≡ w * t * all = mul_assoc w all t ∙ ap (λ x. w * x) (mul_comm all t) ∙ sym (mul_assoc w t all) in
    let decimals : f * u * t ≡ f * all = mul_assoc f u t ∙ ap (λ x. f * x) e in
    add-mul (w * all) (f * u) t ∙ ap₂ ◌+◌ whole decimals ∙ sym (add-mul (w * t) f all)

module _ {s : List ℕ} {at : ℕ} {w : Digits} (p : Piece s at 3 w) (there : w.next ≡ at → ⊥) where
  whole_digits : digits (part s at w.next) ≡ true
  whole_digits = first-digit _ (omega (arith, p.end)) p.all

  -- a number without a point
  pub whole-alone : UnsignedAt s at w.next (pos (w.value * 10_000_000))
  whole-alone = record {
    whole = part s at w.next;
    fraction = [];
    size = w.value * 10_000_000;
    mantissa = plain refl refl whole_digits;
    onward = omega (arith, p.end);
    near = omega (arith, p.end, p.few);
    value_so = refl;
    size_so = mul-one _ ∙ ap (λ n. n * 10_000_000) (p.value_so ∙ ap (spell 0) (sym (append-nil (part s at w.next))));
    within = omega (arith, whole-less p);
  }

  -- a number with a point
  pub with-decimals : {f : Digits} {unit : ℕ} → get_or s w.next 0 ≡ 46 → Piece s (w.next + 1) 7 f → f.next ≤ length s → unit ≡ 10 ^ (7 - (f.next - (w.next + 1)))
      → UnsignedAt s at f.next (pos (w.value * 10_000_000 + f.value * unit))
  with-decimals {f} {unit} point q inside e =
      let whole : List ℕ = part s at w.next in
      let fraction : List ℕ = part s (w.next + 1) f.next in
      let cut : part s at f.next ≡ whole ++ (46 ∷ fraction) =
      piece_cut s at w.next f.next (omega (arith, p.end)) (omega (arith, q.end)) inside ∙ ap (λ b. whole ++ (b ∷ fraction)) point in
      let spelt : w.value * 10 ^ length fraction + f.value ≡ spell 0 (whole ++ fraction) =
      ap₂ (λ a b. a * 10 ^ length fraction + b) p.value_so q.value_so ∙ sym (spell-append 0 whole fraction ∙ spell-after (spell 0 whole) fraction) in
      record {
        whole = whole;
        fraction = fraction;
        size = w.value * 10_000_000 + f.value * unit;
        mantissa = pointed cut (digits_more whole fraction whole_digits q.all);
        onward = omega (arith, p.end, q.end);
        near = omega (arith, p.end, p.few, q.end, q.few);
        value_so = refl;
        size_so = sum_of w.value f.value unit (10 ^ length fraction) 10_000_000 (whole-unit q e) ∙ ap (λ n. n * 10_000_000) spelt;
        within = omega (arith, whole-less p, decimals-less q e);
      }

-- ---- with its sign, or without one

-- the bytes of a mantissa are bytes of numbers
mantissa-bytes : (m whole fraction : List ℕ) → Mantissa m whole fraction → every number_byte m ≡ true
unfolding every
mantissa-bytes m whole fraction (plain e f d) = ap (every number_byte) e ∙ every-other digit number_byte number-digit whole (digits-parts whole d).1
mantissa-bytes m whole fraction (pointed e d) =
    let (a, b) = append-every digit whole fraction (digits-parts (whole ++ fraction) d).1 in
    ap (every number_byte) e
    ∙ every_append number_byte whole (46 ∷ fraction) (every-other digit number_byte number-digit whole a) (every-other digit number_byte number-digit fraction b)

-- a sign, if there is one, before a number without it
pub with-sign : {s : List ℕ} {at from to : ℕ} {u v : ℤ} (negative : Bool) (sign : List ℕ) → Sign negative sign → every number_byte sign ≡ true
    → part s at to ≡ sign ++ part s from to → at ≤ from → from ≤ at + 1 → (n : UnsignedAt s from to u) → v ≡ signed negative n.size → NumberAt s at to v
unfolding spell
with-sign {s} {at} {from} {to} negative sign sign-is sign-bytes cut after near n e =
    let spelt : Numeral = record { negative = negative; whole = n.whole; fraction = n.fraction; exponent = record { down = false; power = [] } } in
    record {
      exact = record {
        numeral = spelt;
        spelt = record {
          sign = sign;
          mantissa = part s from to;
          power = [];
          word = cut ∙ ap (λ l. sign ++ l) (sym (append-nil (part s from to)));
          sign_so = sign-is;
          mantissa_so = n.mantissa;
          power_so = absent refl refl;
        };
        equal = ap (λ z. pos (under spelt) *ℤ z) e
            ∙ signed-times negative (under spelt) n.size
            ∙ ap (λ k. signed negative (n.size * 10 ^ k)) (add-zero (length n.fraction))
            ∙ ap (signed negative) n.size_so;
        within = rw (e, signed-abs negative n.size) n.within;
      };
      bytes = ap (every number_byte) cut ∙ every_append number_byte sign (part s from to) sign-bytes (mantissa-bytes _ _ _ n.mantissa);
      onward = omega (arith, n.onward);
      near = omega (arith, n.near);
    }

-- ---- the value in a machine's word

pub as-cast : {s : List ℕ} {at to n : ℕ} → UnsignedAt s at to (pos n) → UnsignedAt s at to (to_z w64 n)
as-cast {s} {at} {to} {n} u =
    let small : n ≤ 10_000_000_000 = omega (arith, ap nat_abs u.value_so, u.within) in
    subst (UnsignedAt s at to) (sym (cast n 10_000_000_000 small (omega arith)).reads) u

zero_held : Held 0 (pos 0) 0
zero_held = cast 0 0 (omega arith) (omega arith)

module _ {s : List ℕ} {from to : ℕ} {v : ℤ} (n : UnsignedAt s from to v) where
  held : Held (of_z w64 v) v 10_000_000_000
  held = of v 10_000_000_000 (omega (arith, ap nat_abs n.value_so, n.within)) (omega arith)

  -- a number without a sign
  pub unsigned-number : NumberAt s from to v
  unfolding every
  unsigned-number = with-sign false [] (unwritten refl refl) refl refl (omega arith) (omega arith) n n.value_so

-- a number after a minus, and its value taken from 0
pub negative-number : {s : List ℕ} {at to : ℕ} {v : ℤ} (n : UnsignedAt s (at + 1) to v) → to ≤ length s → get_or s at 0 ≡ 45
    → NumberAt s at to (to_z w64 (of_z w64 (to_z w64 0 -ℤ to_z w64 (of_z w64 v))))
unfolding every
negative-number {s} {at} {to} {v} n inside minus-there =
    let cut : part s at to ≡ 45 ∷ part s (at + 1) to =
    piece_cut s at at to (omega arith) (omega (arith, n.onward)) inside
    ∙ ap₂ (λ k b. take k (drop at s) ++ (b ∷ part s (at + 1) to)) (sub_self at) minus-there in
    let value-is : to_z w64 (of_z w64 (to_z w64 0 -ℤ to_z w64 (of_z w64 v))) ≡ signed true n.size =
    (sub zero_held (held n) (omega arith)).reads ∙ +ℤ_idl (neg_ℤ v) ∙ ap neg_ℤ n.value_so in
    with-sign true (45 ∷ []) (minus refl refl) refl cut (omega arith) (omega arith) n value-is
