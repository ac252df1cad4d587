-- The parts that are pointed at lie within their line.
use Prim.Native.Nat.{ℕ, zero, suc, ◌+◌, ◌≤◌}
use mathlib.Core.Path.{◌≡◌, refl}
use mathlib.Core.Bool.{Bool, true, false, cond}
use mathlib.Core.List.{List}
use native.Mathlib.Omega.{arith}
use borrow.Author.Tests.{leb-false}
use lib.Dec.{leb}
use lib.ListN.{length, drop, length-drop}
use Rattle.rules.specs.Demands.{is_data}
use Rattle.rules.specs.Reading.Lines.{line_limit, permitted, blank, in_word}
use Rattle.rules.specs.Reading.Contents.{form_of}
use Rattle.rules.specs.declared.Form.{Form}
use Rattle.rules.specs.declared.Form.TheVariants.{Idle, Keyed, Data, Neither}
use Rattle.rules.specs.declared.Keyword.TheVariants.{ATitle, ALower, AnUpper, ASize}
use Rattle.scan.specs.RunEnds.{run_end}
use Rattle.scan.proofs.Runs.{run-le}
use Rattle.text.specs.WordsFrom.{word_start, word_end}
use Rattle.pointing.specs.Pointing.{part, rest_from, end_spot, word_spot, byte_spot, right, first_wrong, aim_of, parameter_spot, row_spot, aimed_in, spot_in}
use Rattle.pointing.specs.declared.aims.Aim.{Aim}
use Rattle.pointing.specs.declared.aims.Aim.TheVariants.{Byte, FirstWord, Parameters, SecondWord, BoundValue, SampleForm, SampleValue, End, RowOrEnd}
use Rattle.pointing.specs.declared.spots.Spot.{Spot}
use Rattle.pointing.specs.declared.words.Wanted.{Wanted}
use Rattle.pointing.specs.declared.words.Wanted.TheVariants as W

-- a part lies within a line
pub record Inside (l : List ℕ) (s : Spot) : Type 0 where
  pub inside : s.place + s.length ≤ length l

-- ---- runs

module _ (kind : ℕ → Bool) (l : List ℕ) (p : ℕ) where
  pub run-onward : p ≤ run_end kind l p
  run-onward = omega arith

  pub run_inside : p ≤ length l → run_end kind l p ≤ length l
  run_inside h = omega (arith, run-le kind (drop p l), length-drop p l)

-- ---- parts of a line

module _ (l : List ℕ) (p : ℕ) (h : p ≤ length l) where
  pub rest-inside : Inside l (rest_from l p)
  rest-inside = record { inside = omega (arith, h) }

  pub start-inside : word_start l p ≤ length l
  start-inside = run_inside blank l p h

  pub end-inside : word_end l p ≤ length l
  end-inside = run_inside in_word l (word_start l p) start-inside

  -- where the word ends
  pub word-end : (word_spot l p).place + (word_spot l p).length ≡ word_end l p
  word-end = omega (arith, run-onward in_word l (word_start l p))

  pub word-inside : Inside l (word_spot l p)
  word-inside = record { inside = omega (arith, word-end, end-inside) }

pub byte_inside : (l : List ℕ) → Inside l (byte_spot l)
byte_inside l = record { inside = omega (arith, run-le permitted l) }

pub wrong-inside : (wanted : Wanted) (k : ℕ) (l : List ℕ) (p : ℕ) → p ≤ length l → Inside l (first_wrong wanted k l p)
unfolding first_wrong
wrong-inside wanted zero l p h = word-inside l p h
wrong-inside wanted (suc k) l p h = by (right wanted (part l (word_spot l p))) (wrong-inside wanted k l (word_end l p) (end-inside l p h))
  where
    by : (b : Bool) → Inside l (first_wrong wanted k l (word_end l p)) → Inside l (cond b (first_wrong wanted k l (word_end l p)) (word_spot l p))
    by true further = further
    by false further = word-inside l p h

-- ---- by the refusal

pub parameter-inside : (form : Form) (l : List ℕ) (p : ℕ) → p ≤ length l → Inside l (parameter_spot form l p)
parameter-inside Idle l p h = rest-inside l (length l) (omega arith)
parameter-inside (Keyed ATitle) l p h = rest-inside l (word_start l p) (start-inside l p h)
parameter-inside (Keyed ALower) l p h = wrong-inside W.BoundForm 3 l p h
parameter-inside (Keyed AnUpper) l p h = wrong-inside W.BoundForm 3 l p h
parameter-inside (Keyed (ASize k)) l p h = wrong-inside W.Digits 1 l p h
parameter-inside Data l p h = rest-inside l (length l) (omega arith)
parameter-inside Neither l p h = rest-inside l (length l) (omega arith)

row_inside : (l : List ℕ) → Inside l (row_spot l)
row_inside l = by (is_data (form_of l))
  where
    by : (b : Bool) → Inside l (cond b (rest_from l 0) (end_spot l))
    by true = rest-inside l 0 (omega arith)
    by false = rest-inside l (length l) (omega arith)

aimed-inside : (aim : Aim) (l : List ℕ) → Inside l (aimed_in aim l)
unfolding aimed_in
aimed-inside Byte l = byte_inside l
aimed-inside FirstWord l = word-inside l 0 (omega arith)
aimed-inside Parameters l = parameter-inside (form_of l) l (word_end l 0) (end-inside l 0 (omega arith))
aimed-inside SecondWord l = word-inside l (word_end l 0) (end-inside l 0 (omega arith))
aimed-inside BoundValue l = wrong-inside W.BoundValue 3 l (word_end l 0) (end-inside l 0 (omega arith))
aimed-inside SampleForm l = wrong-inside W.SampleForm 3 l 0 (omega arith)
aimed-inside SampleValue l = wrong-inside W.SampleValue 3 l 0 (omega arith)
aimed-inside End l = rest-inside l (length l) (omega arith)
aimed-inside RowOrEnd l = row_inside l

pub spot-inside : (number : ℕ) (l : List ℕ) → Inside l (spot_in number l)
unfolding spot_in
spot-inside number l = by (leb (length l) line_limit) refl
  where
    by : (b : Bool) → leb (length l) line_limit ≡ b → Inside l (cond b (aimed_in (aim_of number) l) (rest_from l line_limit))
    by true e = aimed-inside (aim_of number) l
    by false e = rest-inside l line_limit (omega (arith, leb-false (length l) line_limit e))
