-- A pass while it goes on, place by place: the colour's places passed have what is made of their codes, all others are as they were.
use Prim.Native.Nat.{ℕ, ◌+◌, ◌%◌, ◌≤◌, ◌<◌}
use mathlib.Core.Path.{◌≡◌, refl, sym, ap, ◌∙◌}
use mathlib.Core.List.{List}
use native.Mathlib.Decide.{dec_lt}
use native.Mathlib.Omega.{arith}
use lib.IntN.{ℤ}
use lib.ListN.{length, get_or, set, length-set}
use lib.Seq.{get_or-set_same, get_or-set_other}
use Rattle.strips.specs.Strips.{StripAt}
use Rattle.strips.specs.declared.Strip.{Strip}
use Rattle.picture.specs.Passes.{StripOver, Passable, Passed}

-- ---- each code of a picture, by a strip

abbrev pub strip-there : {strip : Strip} {table slopes bases : List ℤ} {src : List ℕ} → StripOver strip table slopes bases src → (k : ℕ) → k < length src
    → StripAt strip table slopes bases (get_or src k 0)
strip-there s k h = record { stripped = s.stripped; laid = s.laid; inside = s.codes.inside k h }

-- ---- place by place

-- the pass has come to the place i
pub record PassedTo (f : ℕ → ℕ) (first : ℕ) (src dst : List ℕ) (i : ℕ) (dst' : List ℕ) : Type 0 where
  pub of-colour : i % 3 ≡ first
  pub long : length dst' ≡ length dst
  pub made : (k : ℕ) → k < i → k < length src → k % 3 ≡ first → get_or dst' k 0 ≡ f (get_or src k 0)
  pub other : (k : ℕ) → (k % 3 ≡ first → ⊥) → get_or dst' k 0 ≡ get_or dst k 0
  pub later : (k : ℕ) → length src ≤ k → get_or dst' k 0 ≡ get_or dst k 0

pub none_passed : (f : ℕ → ℕ) {first : ℕ} {src : List ℕ} (dst : List ℕ) → Passable first src (length dst) → PassedTo f first src dst first dst
none_passed f dst p =
    record {
      of-colour = omega (arith, p.of_three);
      long = refl;
      made = λ k h l e. absurd (omega (arith, h, e, p.of_three));
      other = λ k n. refl;
      later = λ k h. refl;
    }

module _ {f : ℕ → ℕ} {first : ℕ} {src dst : List ℕ} {i : ℕ} {dst' : List ℕ} (p : Passable first src (length dst)) (s : PassedTo f first src dst i dst') where
  pub room_at : i < length src → i < length dst'
  room_at h = omega (arith, s.long, p.room)

  -- one place more
  pub one-passed : i < length src → {code : ℕ} → code ≡ f (get_or src i 0) → PassedTo f first src dst (i + 3) (set dst' i code)
  one-passed h {code} e =
      record {
        of-colour = omega (arith, s.of-colour);
        long = length-set dst' i code ∙ s.long;
        made = made_so;
        other = λ k n. kept k (λ q. n (ap (λ x. x % 3) q ∙ s.of-colour)) ∙ s.other k n;
        later = λ k l. kept k (λ q. omega (arith, q)) ∙ s.later k l;
      }
    where
      kept : (k : ℕ) → (k ≡ i → ⊥) → get_or (set dst' i code) k 0 ≡ get_or dst' k 0
      kept k n = get_or-set_other dst' i k code 0 n

      made_so : (k : ℕ) → k < i + 3 → k < length src → k % 3 ≡ first → get_or (set dst' i code) k 0 ≡ f (get_or src k 0)
      made_so k l m r = by (dec_lt k i)
        where
          by : Dec (k < i) → get_or (set dst' i code) k 0 ≡ f (get_or src k 0)
          by (yes below) = kept k (λ q. omega (arith, q)) ∙ s.made k below m r
          by (no above) =
              let here : k ≡ i = omega (arith, above, l, r, s.of-colour) in
              ap (λ x. get_or (set dst' i code) x 0) here ∙ get_or-set_same dst' i code 0 (room_at h) ∙ e ∙ ap (λ x. f (get_or src x 0)) (sym here)

  pub all-passed : length src ≤ i → Passed f first src dst dst'
  all-passed h = record { long = s.long; made = λ k l e. s.made k (omega arith) l e; other = s.other; later = s.later }
