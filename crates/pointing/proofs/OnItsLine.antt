-- What a refusal points at lies on the line that it names: the line is one of the file's, its bytes stand where the definition puts it, and the spot lies between its first byte and its end.
use Prim.Native.Nat.{ℕ, zero, suc, ◌+◌, ◌-◌, ◌≤◌, ◌<◌}
use mathlib.Core.Path.{◌≡◌, refl, ap, ◌∙◌}
use mathlib.Core.List.{List, [], ◌∷◌, ◌++◌}
use native.Mathlib.Omega.{arith}
use lib.ListN.{length, get_or, take, drop, length-append}
use lib.Seq.{take_at, drop-append-add}
use Rattle.rules.specs.Answers.{refusal_number}
use Rattle.rules.specs.Reading.{read}
use Rattle.rules.specs.Reading.Judge.{start}
use Rattle.rules.specs.Reading.Lines.{lines_of}
use Rattle.rules.specs.declared.Refusal.{Refusal}
use Rattle.rules.proofs.Reading.Refusals.{Stopped, at-line, at-end, refused-first}
use Rattle.rules.proofs.Reading.Titles.{Cut, last, more, lines_cut, lines-some}
use Rattle.pointing.specs.Pointing.{part, spot_in, line_from, line_spot, pointed}
use Rattle.pointing.specs.declared.spots.Spot.{Spot}
use Rattle.pointing.proofs.Inside.{spot-inside}
use Rattle.rules.specs.Results.{refused_on}

-- the bytes of line m, counted from 1
abbrev pub line_of : List ℕ → ℕ → List ℕ
line_of file m = get_or (lines_of file) (m - 1) []

-- the place of its first byte
abbrev pub line_start : List ℕ → ℕ → ℕ
line_start file m = (line_spot file m).place

-- the law, of the refusal with a number and a line
pub record OnItsLine (file : List ℕ) (number m : ℕ) : Type 0 where
  -- the line is one of the file's, and has its bytes and its length
  pub numbered : (1 ≤ m) × (m ≤ length (lines_of file))
  pub bytes : part file (line_spot file m) ≡ line_of file m
  pub long : (line_spot file m).length ≡ length (line_of file m)
  -- what is pointed at begins at the line's first byte or past it, and ends at the line's end or before it
  pub from : line_start file m ≤ (pointed file number m).place
  pub to : (pointed file number m).place + (pointed file number m).length ≤ line_start file m + length (line_of file m)
  -- and so lies within the file
  pub inside : line_start file m + length (line_of file m) ≤ length file

-- ---- where a line stands

-- line k of lines that stand in s, the first of which begins at p
record Stands (p k : ℕ) (s : List ℕ) (ls : List (List ℕ)) (spot : Spot) : Type 0 where
  past : p ≤ spot.place
  long : spot.length ≡ length (get_or ls k [])
  bytes : take spot.length (drop (spot.place - p) s) ≡ get_or ls k []
  inside : spot.place + spot.length ≤ p + length s
  -- the last one ends where s does
  ends : k + 1 ≡ length ls → spot.place + spot.length ≡ p + length s

first-stands : (p : ℕ) (s l : List ℕ) (ls : List (List ℕ)) → Cut s l ls → Stands p 0 s (l ∷ ls) (record { place = p; length = length l })
first-stands p s l ls (last x y) = record {
  past = omega arith;
  long = refl;
  bytes = rw y (let z : p - p ≡ 0 = omega arith in rw z (take_at l [] (length l) refl));
  inside = omega (arith, ap length y, length-append l []);
  ends = λ e. omega (arith, ap length y, length-append l []);
}
first-stands p s l ls (more s' x y) = record {
  past = omega arith;
  long = refl;
  bytes = rw x (let z : p - p ≡ 0 = omega arith in rw z (take_at l (10 ∷ s') (length l) refl));
  inside = omega (arith, ap length x, length-append l (10 ∷ s'));
  ends = λ e. absurd (lines-some s' (y ∙ none_left ls e));
}
  where
    none_left : (vs : List (List ℕ)) → 0 + 1 ≡ length (l ∷ vs) → vs ≡ []
    none_left [] e = refl
    none_left (v ∷ vs) e = absurd (omega arith)

later-stands : (p k : ℕ) (s' l : List ℕ) (ls : List (List ℕ)) (spot : Spot) → Stands (p + length l + 1) k s' ls spot → Stands p (suc k) (l ++ (10 ∷ s')) (l ∷ ls) spot
later-stands p k s' l ls spot h = record {
  past = omega (arith, h.past);
  long = h.long;
  bytes = rw ahead (ap (take spot.length) (drop-append-add l (10 ∷ s') (suc (spot.place - (p + length l + 1)))) ∙ h.bytes);
  inside = omega (arith, h.inside, length-append l (10 ∷ s'));
  ends = λ e. omega (arith, h.ends (omega (arith, e)), length-append l (10 ∷ s'));
}
  where
    ahead : spot.place - p ≡ length l + suc (spot.place - (p + length l + 1))
    ahead = omega (arith, h.past)

line-stands : (p k : ℕ) (s : List ℕ) (ls : List (List ℕ)) → lines_of s ≡ ls → k < length ls → Stands p k s ls (line_from p k ls)
unfolding line_from
line-stands p k s [] e h = absurd (lines-some s e)
line-stands p zero s (l ∷ ls) e h = first-stands p s l ls (lines_cut s l ls e)
line-stands p (suc k) s (l ∷ ls) e h = by (lines_cut s l ls e) (λ s'. line-stands (p + length l + 1) k s' ls)
  where
    by : Cut s l ls → ((s' : List ℕ) → lines_of s' ≡ ls → k < length ls → Stands (p + length l + 1) k s' ls (line_from (p + length l + 1) k ls)) → Stands p (suc k) s (l ∷ ls) (line_from (p + length l + 1) k ls)
    by (last x y) again = absurd (omega (arith, h, ap length x))
    by (more s' x y) again = rw x (later-stands p k s' l ls (line_from (p + length l + 1) k ls) (again s' y (omega (arith, h))))

-- ---- a line of the file

module _ (file : List ℕ) (m : ℕ) (there : (1 ≤ m) × (m ≤ length (lines_of file))) where
  stands : Stands 0 (m - 1) file (lines_of file) (line_spot file m)
  stands = line-stands 0 (m - 1) file (lines_of file) refl (omega (arith, there.0, there.1))

  line-bytes : part file (line_spot file m) ≡ line_of file m
  line-bytes = let z : line_start file m - 0 ≡ line_start file m = omega arith in rw z at stands.bytes

  -- the last one ends where the file does
  pub last-ends : m ≡ length (lines_of file) → line_start file m + length (line_of file m) ≡ length file
  last-ends e = omega (arith, stands.long, stands.ends (omega (arith, e, there.0)))

  -- the spot in the file is the one in the line, from the line's first byte on
  pub pointed-so : (number : ℕ) → pointed file number m ≡ record { place = line_start file m + (spot_in number (line_of file m)).place; length = (spot_in number (line_of file m)).length }
  unfolding pointed
  pointed-so number = rw line-bytes refl

  stays : (number : ℕ) → OnItsLine file number m
  stays number =
      let i = (spot-inside number (line_of file m)).inside in
      let from-so = ap (λ (s : Spot). s.place) (pointed-so number) in
      let long-so = ap (λ (s : Spot). s.length) (pointed-so number) in
      record {
        numbered = there;
        bytes = line-bytes;
        long = stands.long;
        from = omega (arith, from-so);
        to = omega (arith, from-so, long-so, i);
        inside = omega (arith, stands.long, stands.inside);
      }

-- ---- the line that a refusal names

pub numbered : (file : List ℕ) (places : ℕ) (r : Refusal) (m : ℕ) → Stopped places 0 0 start (lines_of file) r m → (1 ≤ m) × (m ≤ length (lines_of file))
numbered file places r m (at-line before l rest is e n k a u) = (omega (arith, n), omega (arith, n, ap length e, length-append before (l ∷ rest)))
numbered file places r m (at-end is n k a u) = some-lines (lines_of file) refl
  where
    some-lines : (ls : List (List ℕ)) → lines_of file ≡ ls → (1 ≤ m) × (m ≤ length (lines_of file))
    some-lines [] e = absurd (lines-some file e)
    some-lines (l ∷ ls) e = (omega (arith, n, ap length e), omega (arith, n))

-- what a refusal points at lies on its line
pub on-its-line : (file : List ℕ) (places : ℕ) (r : Refusal) (m : ℕ) → read file places ≡ refused_on r m → OnItsLine file (refusal_number r) m
on-its-line file places r m h = stays file m (numbered file places r m (refused-first file places r m h)) (refusal_number r)
