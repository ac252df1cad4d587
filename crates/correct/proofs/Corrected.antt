-- A piece, from its codes to its bytes: the pixels before the first code that is too great are within the depth, and what is corrected of them is what is written.
use Prim.Native.Nat.{ℕ, suc, zero, ◌*◌, ◌/◌, ◌%◌, ◌≤◌}
use mathlib.Core.Path.{◌≡◌, refl, sym, ap, ap₂, subst, ◌∙◌}
use mathlib.Core.Bool.{Bool, true, false, cond, ◌&&◌}
use mathlib.Core.List.{List, [], ◌∷◌, ◌++◌}
use native.Mathlib.Nat.{le_trans, le_of_eq}
use native.Mathlib.Omega.{arith}
use lib.Dec.{leb}
use lib.IntN.{ℤ}
use lib.ListN.{length, take, drop, length-take}
use lib.Seq.{length-take-le, take_at, take-take}
use Rattle.rules.specs.Reading.Lines.{every, run}
use Rattle.rules.specs.Looking.{correct}
use Rattle.rules.specs.Picturing.{corrected, each_pixel}
use Rattle.rules.specs.declared.Description.{Description}
use Rattle.rules.proofs.Picturing.Checks.{corrected-is, each-length, within_all}
use Rattle.rules.proofs.Tests.{both-and}
use Rattle.scan.proofs.Runs.{run-le}
use Rattle.colour.specs.Plans.{Planned}
use Rattle.colour.specs.declared.plan.Plan.{Plan}
use Rattle.colour.proofs.Plans.{planned}
use Rattle.ppm.specs.Excess.{excess_at}
use Rattle.ppm.specs.Raster.{bytes_of, byte_count, code_count, codes_of, Copied}
use Rattle.ppm.proofs.Codes.{bytes-length, codes-length}
use Rattle.ppm.proofs.Putting.{copied_all}
use Rattle.correct.specs.Jobs.{bits_in, depths_in}
use Rattle.correct.specs.Pieces.{Corrects, Readable, Room}
use Rattle.correct.specs.declared.jobs.Scales.{Scales}

-- the first of a run are all of its kind
every_first : (kind : ℕ → Bool) (l : List ℕ) (n : ℕ) → n ≤ length (run kind l) → every kind (take n l) ≡ true
unfolding every run
every_first kind [] zero h = refl
every_first kind [] (suc n) h = refl
every_first kind (b ∷ rest) zero h = refl
every_first kind (b ∷ rest) (suc n) h = by (kind b) refl h (every_first kind rest n)
  where
    by : (t : Bool) → kind b ≡ t → suc n ≤ length (cond t (b ∷ run kind rest) []) → (n ≤ length (run kind rest) → every kind (take n rest) ≡ true) → kind b && every kind (take n rest) ≡ true
    by true e h later = both-and _ _ e (later (omega arith))
    by false e h later = absurd (omega arith)

-- ---- how many

pub code-few : (wide : Bool) (bytes : ℕ) → code_count wide bytes ≤ bytes
code-few false bytes = omega arith
code-few true bytes = omega arith

byte-mono : (wide : Bool) {a b : ℕ} → a ≤ b → byte_count wide a ≤ byte_count wide b
byte-mono false h = h
byte-mono true h = omega arith

-- ---- the codes corrected

-- whole pixels before the first code above m have none above it
pub kept-within : (m n : ℕ) (raw : List ℕ) {count : ℕ} → count ≡ length (run (λ c. leb c m) (take n raw)) → within_all m (take (count / 3 * 3) raw) ≡ true
kept-within m n raw {count} counted =
    let q = count / 3 * 3 in
    let few = run-le (λ c. leb c m) (take n raw) in
    subst (λ l. within_all m l ≡ true) (take-take q n raw (omega (arith, counted, few, length-take n raw)))
    (every_first (λ c. leb c m) (take n raw) q (omega (arith, counted)))

module _ {d : Description} {table : List ℤ} {s : Scales} {plan : Plan} (able : Readable d table s plan) where
  -- the plan is the table's
  abbrev pub plan-there : Planned plan table
  plan-there = planned d (bits_in s) able.could able.known able.planned

  -- whole pixels with no code that is too great are corrected to what the rule makes of each
  first-corrected : (src dst : List ℕ) {dst' : List ℕ} → length src % 3 ≡ 0 → within_all s.raw.depth.greatest src ≡ true
      → dst' ≡ each_pixel (correct d table (depths_in s)) src ++ drop (length src) dst → take (length src) dst' ≡ corrected d table (bits_in s) src
  first-corrected src dst whole inside made =
      let rule = correct d table (depths_in s) in
      ap (take (length src)) made
      ∙ take_at (each_pixel rule src) _ (length src) (each-length rule src whole)
      ∙ sym (corrected-is d table (bits_in s) (depths_in s) able.could able.known src inside)

  -- ---- from bytes to bytes

  pub piece-corrects : (input raw dst bytes : List ℕ) → Room s (length input) (length bytes) (length raw) (length dst)
      → {n count made : ℕ} {raw' dst' bytes' : List ℕ}
      → Copied (codes_of s.raw.wide input) raw n raw'
      → count ≡ length (run (λ c. leb c s.raw.depth.greatest) (take n raw'))
      → dst' ≡ each_pixel (correct d table (depths_in s)) (take (count / 3 * 3) raw') ++ drop (length (take (count / 3 * 3) raw')) dst
      → Copied (bytes_of s.corrected.wide (take (count / 3 * 3) dst')) bytes made bytes'
      → Corrects d table s input (record { pixels = count / 3; bytes = made; excess = excess_at (take n raw') count }) bytes'
  piece-corrects input raw dst bytes room {n} {count} {made} {raw'} {dst'} {bytes'} read counted fixed wrote =
      let m = s.raw.depth.greatest in
      let codes = codes_of s.raw.wide input in
      let wide = s.corrected.wide in
      let q = count / 3 * 3 in
      let long = codes-length s.raw.wide input in
      let put = copied_all read (omega (arith, long, room.for_raw)) in
      let is : count ≡ length (run (λ c. leb c m) codes) = counted ∙ ap (λ l. length (run (λ c. leb c m) l)) put.1 in
      let few = run-le (λ c. leb c m) codes in
      let same : take q raw' ≡ take q codes = sym (take-take q n raw' (omega (arith, put.0))) ∙ ap (take q) put.1 in
      let first : length (take q raw') ≡ q = length-take-le q raw' (omega (arith, put.0, read.within)) in
      let written : take q dst' ≡ corrected d table (bits_in s) (take q raw') =
      subst (λ k. take k dst' ≡ corrected d table (bits_in s) (take q raw')) first
      (first-corrected (take q raw') dst (omega (arith, first)) (kept-within m n raw' counted) fixed) in
      let fits : length (bytes_of wide (take q dst')) ≤ length bytes =
      le_trans (le_of_eq (bytes-length wide (take q dst'))) (le_trans (byte-mono wide (omega (arith, length-take q dst', long))) room.for_bytes) in
      record {
        pixels = ap (λ k. k / 3) is;
        excess = ap₂ excess_at put.1 is;
        few = omega (arith, long, code-few s.raw.wide (length input));
        inside = wrote.within;
        made = (copied_all wrote fits).1 ∙ ap (bytes_of wide) (written ∙ ap (corrected d table (bits_in s)) same);
      }
