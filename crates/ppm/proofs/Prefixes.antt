-- A header that stands in some bytes stands already in those before the pixels: what follows it has no part in it.
-- So whoever reads byte by byte, until the header stands, has read the header and no pixel.
use Prim.Native.Nat.{ℕ, zero, suc, ◌+◌, ◌-◌, ◌≤◌, ◌<◌}
use mathlib.Core.Path.{◌≡◌, refl, sym, ap, ap₂, subst, ◌∙◌}
use mathlib.Core.Bool.{Bool, true, false, cond}
use mathlib.Core.List.{List, [], ◌∷◌}
use native.Mathlib.Decide.{dec_le}
use native.Mathlib.Omega.{arith}
use borrow.Author.Tests.{ne_eqb, le-ltb, ltb-false}
use lib.Dec.{eqb, leb, ltb}
use lib.ListN.{length, take, drop, get_or, length-take}
use lib.Seq.{length-take-le, take_all, take-take, take-nil, get_or-take}
use Rattle.std.specs.Prelude.{Result, Ok, Err}
use Rattle.rules.specs.Reading.Lines.{digit, run}
use Rattle.rules.specs.Reading.Numerals.{spell}
use Rattle.scan.specs.RunEnds.{run_end}
use Rattle.ppm.specs.Kinds.{kind_of}
use Rattle.ppm.specs.Header.{whitespace, goes_on, comment_after, gap_length, gap_end, field_between, field_at, with_maxval, after_height, with_height, after_width, with_width, starts_p6, most_size, most_maxval, header_of}
use Rattle.ppm.specs.declared.header.Count.{Count}
use Rattle.ppm.specs.declared.header.Fault.{Fault}
use Rattle.ppm.specs.declared.header.Fault.TheVariants.{NotP6, EndsEarly}
use Rattle.ppm.specs.declared.header.Frame.{Frame}
use Rattle.ppm.specs.declared.header.Part.{Part}
use Rattle.ppm.specs.declared.header.Part.TheVariants.{Width, Height, Maxval}
use Rattle.ppm.proofs.Sizes.{either}

-- ---- runs and gaps that end among the first bytes

-- the first bytes, from a place on
drop-first : (m p : ℕ) (l : List ℕ) → drop p (take m l) ≡ take (m - p) (drop p l)
drop-first m zero l = let all : m ≡ m - 0 = omega arith in ap (λ k. take k l) all
drop-first zero (suc p) l = let none : 0 ≡ 0 - suc p = omega arith in ap (λ k. take k (drop (suc p) l)) none
drop-first (suc m) (suc p) [] = sym (take-nil (suc m - suc p))
drop-first (suc m) (suc p) (b ∷ l) = let less : m - p ≡ suc m - suc p = omega arith in drop-first m p l ∙ ap (λ k. take k (drop p l)) less

gap-first : (comment : Bool) (l : List ℕ) (k : ℕ) → gap_length comment l < k → gap_length comment (take k l) ≡ gap_length comment l
unfolding gap_length
gap-first comment [] zero h = refl
gap-first comment [] (suc k) h = refl
gap-first comment (b ∷ rest) zero h = absurd (omega arith)
gap-first comment (b ∷ rest) (suc k) h = by (goes_on comment b) h (gap-first (comment_after comment b) rest k)
  where
    by : (t : Bool) → cond t (1 + gap_length (comment_after comment b) rest) 0 < suc k
        → (gap_length (comment_after comment b) rest < k → gap_length (comment_after comment b) (take k rest) ≡ gap_length (comment_after comment b) rest)
        → cond t (1 + gap_length (comment_after comment b) (take k rest)) 0 ≡ cond t (1 + gap_length (comment_after comment b) rest) 0
    by true h later = ap (λ n. 1 + n) (later (omega arith))
    by false h later = refl

run-first : (kind : ℕ → Bool) (l : List ℕ) (k : ℕ) → length (run kind l) < k → length (run kind (take k l)) ≡ length (run kind l)
unfolding run
run-first kind [] zero h = refl
run-first kind [] (suc k) h = refl
run-first kind (b ∷ rest) zero h = absurd (omega arith)
run-first kind (b ∷ rest) (suc k) h = by (kind b) h (run-first kind rest k)
  where
    by : (t : Bool) → length (cond t (b ∷ run kind rest) []) < suc k → (length (run kind rest) < k → length (run kind (take k rest)) ≡ length (run kind rest))
        → length (cond t (b ∷ run kind (take k rest)) []) ≡ length (cond t (b ∷ run kind rest) [])
    by true h later = ap suc (later (omega arith))
    by false h later = refl

module _ (s : List ℕ) (p m : ℕ) where
  gap-end-first : gap_end false s p < m → gap_end false (take m s) p ≡ gap_end false s p
  gap-end-first h = ap (λ n. p + n) (ap (gap_length false) (drop-first m p s) ∙ gap-first false (drop p s) (m - p) (omega arith))

  run-end-first : (kind : ℕ → Bool) → run_end kind s p < m → run_end kind (take m s) p ≡ run_end kind s p
  run-end-first kind h = ap (λ n. p + n) (ap (λ l. length (run kind l)) (drop-first m p s) ∙ run-first kind (drop p s) (m - p) (omega arith))

-- ---- a number among the first bytes

-- a number that is found ends one byte after its digits
abbrev Ends : ℕ → Result Count Fault → Type 0
Ends end (Ok number) = number.next ≡ end + 1
Ends end (Err fault) = Unit {0}

module _ (part : Part) (limit : ℕ) (s : List ℕ) where
  between_ends : (start end : ℕ) → Ends end (field_between part limit s start end)
  unfolding field_between
  between_ends start end =
      either (Ends end) (eqb end (length s)) tt
      (either (Ends end) (eqb end start) tt
      (either (Ends end) (whitespace (get_or s end 0)) (either (Ends end) (leb (spell 0 (take (end - start) (drop start s))) limit) refl tt) tt))

  -- the bytes after a number's whitespace byte have no part in it
  between_first : (start end m : ℕ) → start ≤ end → end < m → m ≤ length s → field_between part limit (take m s) start end ≡ field_between part limit s start end
  unfolding field_between
  between_first start end m order inside there =
      let same : take (end - start) (drop start (take m s)) ≡ take (end - start) (drop start s) =
      ap (take (end - start)) (drop-first m start s) ∙ take-take (end - start) (m - start) (drop start s) (omega arith) in
      rw (length-take-le m s there, ne_eqb end m (omega arith), ne_eqb end (length s) (omega arith), get_or-take m s end 0 inside, same)

  -- nor in where it stands
  number-first : (p m : ℕ) → run_end digit s (gap_end false s p) < m → m ≤ length s → field_at part limit (take m s) p ≡ field_at part limit s p
  unfolding field_at
  number-first p m h there =
      let start = gap_end false s p in
      ap₂ (field_between part limit (take m s)) (gap-end-first s p m (omega arith)) (ap (run_end digit (take m s)) (gap-end-first s p m (omega arith)) ∙ run-end-first s start m digit h)
      ∙ between_first start (run_end digit s start) m (omega arith) h there

  field-ends : (p : ℕ) (number : Count) → field_at part limit s p ≡ Ok number → number.next ≡ run_end digit s (gap_end false s p) + 1
  unfolding field_at
  field-ends p number e = subst (Ends (run_end digit s (gap_end false s p))) e (between_ends (gap_end false s p) (run_end digit s (gap_end false s p)))

  -- a number that is found is found in the first bytes, up to where it ends or further
  pub field-first : (p m : ℕ) (number : Count) → field_at part limit s p ≡ Ok number → number.next ≤ m → (p < number.next) × (field_at part limit (take m s) p ≡ Ok number)
  field-first p m number e h = (omega (arith, field-ends p number e), by (dec_le (length s) m))
    where
      by : Dec (length s ≤ m) → field_at part limit (take m s) p ≡ Ok number
      by (yes all) = rw (take_all m s all) e
      by (no some) = number-first p m (omega (arith, field-ends p number e)) (omega arith) ∙ e

-- ---- the header

never : (fault : Fault) (f : Frame) → Err fault ≡ Ok f → ⊥
never fault f e = let z : ◌≡◌ {A = ℕ} 0 1 = cc in omega arith

-- what stands in the bytes stands in the first m of them, where m reaches to the pixels, which are not before place p
abbrev StandsFrom : (List ℕ → Result Frame Fault) → List ℕ → ℕ → Frame → Type 0
StandsFrom says s p f = (p ≤ f.pixels) × ((m : ℕ) → f.pixels ≤ m → says (take m s) ≡ Ok f)

module _ (s : List ℕ) (f : Frame) where
  -- a number that is found, and what it is followed by
  number-stands : (part : Part) (limit p : ℕ) (next : List ℕ → Result Count Fault → Result Frame Fault) → ((fault : Fault) → next s (Err fault) ≡ Err fault)
      → ((number : Count) → next s (Ok number) ≡ Ok f → StandsFrom (λ l. next l (Ok number)) s number.next f)
      → next s (field_at part limit s p) ≡ Ok f → StandsFrom (λ l. next l (field_at part limit l p)) s (p + 1) f
  number-stands part limit p next lacks later e = by (field_at part limit s p) refl e
    where
      by : (found : Result Count Fault) → field_at part limit s p ≡ found → next s found ≡ Ok f → StandsFrom (λ l. next l (field_at part limit l p)) s (p + 1) f
      by (Err fault) g e = absurd (never fault f (sym (lacks fault) ∙ e))
      by (Ok number) g e =
          let rest = later number e in (
            omega (arith, rest.0, (field-first part limit s p number.next number g (omega arith)).0),
            λ m h. ap (next (take m s)) (field-first part limit s p m number g (omega (arith, rest.0))).1 ∙ rest.1 m h,
          )

  height-first : (width : ℕ) (height : Count) → after_height s width height ≡ Ok f → StandsFrom (λ l. after_height l width height) s (height.next + 1) f
  unfolding after_height with_maxval
  height-first width height = number-stands Maxval most_maxval height.next (λ l. with_maxval width height.value) (λ fault. refl) pixels-next
    where
      pixels-next : (maxval : Count) → with_maxval width height.value (Ok maxval) ≡ Ok f → StandsFrom (λ l. with_maxval width height.value (Ok maxval)) s maxval.next f
      pixels-next maxval e =
          let frame : ◌≡◌ {A = Frame} (record { width = width; height = height.value; maxval = maxval.value; pixels = maxval.next }) f = cc in
          let pixels : maxval.next ≡ f.pixels = ap (λ x. x.pixels) frame in
          (omega arith, λ m h. e)

  width-first : (width : Count) → after_width s width ≡ Ok f → StandsFrom (λ l. after_width l width) s (width.next + 1) f
  unfolding after_width with_height
  width-first width = number-stands Height most_size width.next (λ l. with_height l width.value) (λ fault. refl) (λ height e. let h = height-first width.value height e in (omega (arith, h.0), h.1))

  fields-first : with_width s (field_at Width most_size s 3) ≡ Ok f → StandsFrom (λ l. with_width l (field_at Width most_size l 3)) s 4 f
  unfolding with_width
  fields-first = number-stands Width most_size 3 with_width (λ fault. refl) (λ width e. let w = width-first width e in (omega (arith, w.0), w.1))

  -- a header that stands, stands in the bytes before its pixels
  pub header-first : header_of s ≡ Ok f → header_of (take f.pixels s) ≡ Ok f
  unfolding header_of starts_p6
  header-first e = by (ltb (length s) 4) refl (starts_p6 s) refl e
    where
      by : (short : Bool) → ltb (length s) 4 ≡ short → (p6 : Bool) → starts_p6 s ≡ p6
          → cond short (Err EndsEarly) (cond p6 (with_width s (field_at Width most_size s 3)) (Err (NotP6 (kind_of s)))) ≡ Ok f
          → header_of (take f.pixels s) ≡ Ok f
      by true l p6 g e = absurd (never _ f e)
      by false l false g e = absurd (never _ f e)
      by false l true g e =
          let found = fields-first e in
          let m = f.pixels in
          let long : ltb (length (take m s)) 4 ≡ false = le-ltb (length (take m s)) 4 (omega (arith, length-take m s, ltb-false (length s) 4 l, found.0)) in
          let starts : starts_p6 (take m s) ≡ true = rw (get_or-take m s 0 0 (omega (arith, found.0)), get_or-take m s 1 0 (omega (arith, found.0)), get_or-take m s 2 0 (omega (arith, found.0))) g in
          rw (long, starts) (found.1 m (omega arith))
