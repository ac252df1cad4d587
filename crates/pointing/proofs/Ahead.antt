-- A line past so many others, sought from the cursor on: how the search begins, passes a line, finds the line and ends.
use Prim.Native.Nat.{ℕ, zero, suc, ◌-◌, ◌+◌}
use mathlib.Core.Path.{◌≡◌, refl, sym, ap, ap₂, ◌∙◌}
use mathlib.Core.List.{List, [], ◌∷◌}
use native.Mathlib.Omega.{arith}
use lib.ListN.{length, take, drop}
use Rattle.rules.specs.Reading.Lines.{lines_of}
use Rattle.text.specs.LinesFrom.{lines_from}
use Rattle.text.specs.declared.cursor.Cursor.{Cursor}
use Rattle.text.proofs.Standing.{Standing, Beginning, LineFound, EndFound, step-first}
use Rattle.pointing.specs.Pointing.{line_from}

-- what is sought is the line past so many others, from the cursor on
pub record Ahead (file : List ℕ) (others : ℕ) (c : Cursor) (left : ℕ) : Type 0 where
  pub standing : Standing file c
  pub to-come : line_from 0 others (lines_of file) ≡ line_from c.at left (lines_from file c.at)

pub begins : (file : List ℕ) (others : ℕ) (c : Cursor) → c.at ≡ 0 → c.line ≡ 1 → Ahead file others c others
begins file others c p n =
    let b : Beginning file c = step-first file c p n in
    record { standing = b.standing; to-come = ap₂ (λ k ls. line_from k others ls) (sym p) (sym b.lines) }

nowhere : (p k : ℕ) → line_from p k [] ≡ record { place = 0; length = 0 }
unfolding line_from
nowhere p k = refl

first-line : (p : ℕ) (l : List ℕ) (ls : List (List ℕ)) → line_from p 0 (l ∷ ls) ≡ record { place = p; length = length l }
unfolding line_from
first-line p l ls = refl

later-line : (p k : ℕ) (l : List ℕ) (ls : List (List ℕ)) → (k ≡ 0 → ⊥) → line_from p k (l ∷ ls) ≡ line_from (p + length l + 1) (k - 1) ls
unfolding line_from
later-line p zero l ls some = absurd (some refl)
later-line p (suc k) l ls some = let less : suc k - 1 ≡ k = omega arith in rw less refl

module _ {file : List ℕ} {others : ℕ} {c : Cursor} {left : ℕ} (a : Ahead file others c left) where
  pub ends : EndFound file c → line_from 0 others (lines_of file) ≡ record { place = 0; length = 0 }
  ends e = a.to-come ∙ ap (line_from c.at left) e.lines ∙ nowhere c.at left

  module _ {from to line : ℕ} {next : Cursor} (found : LineFound file c from to line next) where
    abbrev text : List ℕ
    text = take (to - from) (drop from file)

    -- it is this line
    pub here : left ≡ 0 → line_from 0 others (lines_of file) ≡ record { place = from; length = length text }
    here z =
        a.to-come
        ∙ ap₂ (λ k ls. line_from c.at k ls) z found.lines
        ∙ first-line c.at text (lines_from file next.at)
        ∙ ap (λ (p : ℕ). record { place = p; length = length text }) (sym found.here)

    -- this is one of the others
    pub one_less : (left ≡ 0 → ⊥) → Ahead file others next (left - 1)
    one_less some = record {
      standing = found.next-standing;
      to-come =
          a.to-come
          ∙ ap (line_from c.at left) found.lines
          ∙ later-line c.at left text (lines_from file next.at) some
          ∙ ap (λ p. line_from p (left - 1) (lines_from file next.at)) (ap (λ (q : ℕ). q + length text + 1) (sym found.here) ∙ sym found.place);
    }
