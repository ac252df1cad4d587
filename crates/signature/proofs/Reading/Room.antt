-- The room that a table needs: no state that reading comes to describes more rows than the greatest table has, so that only a table shorter than that one is
-- ever too short.
use Prim.Native.Nat.{ℕ, ◌*◌, ◌≤◌, ◌<◌}
use mathlib.Core.Path.{◌≡◌, refl, sym, subst}
use mathlib.Core.Bool.{true, false}
use mathlib.Core.List.{List}
use native.Mathlib.Nat.{mul-le-mul}
use native.Mathlib.Omega.{arith}
use borrow.Author.Tests.{leb-true, leb-false, le-leb}
use lib.Dec.{leb}
use Rattle.rules.specs.Units.{in_range, place_limit, row_limit, rows_of}
use Rattle.rules.specs.Descriptions.{roomy, rows}
use Rattle.rules.specs.Reading.Contents.{content_of}
use Rattle.rules.specs.Reading.Grammar.{Line}
use Rattle.rules.specs.Reading.Items.{size_in}
use Rattle.rules.specs.Reading.Judge.{Fault, State, add, describe, given_or, go, newer, no_size, start}
use Rattle.rules.specs.declared.Description.{Description}
use Rattle.rules.specs.declared.Item.{Item}
use Rattle.rules.specs.declared.Kind.{Kind}
use Rattle.rules.specs.declared.Kind.TheVariants.{OneD, ThreeD}
use Rattle.rules.specs.declared.Size.{Size}
use Rattle.rules.proofs.Sound.{range-rows-most}
use Rattle.rules.proofs.Tests.{and_both}
use Rattle.rules.proofs.Reading.Bridge.{size-in-range}
use Rattle.signature.specs.Before.{judge_by}
use Rattle.signature.proofs.Reading.Parts.{passes-by}
use Rattle.std.specs.Prelude.{None, Option, Some}

-- no more rows than the greatest table has
abbrev pub Bounded : Description → Type 0
Bounded d = rows d ≤ row_limit

pub start-bounded : Bounded (describe start)
unfolding describe
start-bounded = omega arith

add-bounded : (st : State) (p : ℕ) (l : List ℕ) (i : Item) → Line p l i → Bounded (describe st) → Bounded (describe (add st i))
unfolding add describe
add-bounded st p l i k b = by (size_in i) refl
  where
    by : (o : Option Size) → size_in i ≡ o → let s = given_or no_size (newer o st.size) in rows_of s.kind s.n ≤ row_limit
    by None e = b
    by (Some s) e = range-rows-most s.kind s.n (size-in-range p l i s e k)

-- a line that passes leaves it so, whatever is asked of the head
pub line-bounded : (head : ℕ → State → Fault) (places : ℕ) (st : State) (p : ℕ) (l : List ℕ) (st' : State) → judge_by head content_of places st p l ≡ go st'
    → Bounded (describe st) → Bounded (describe st')
line-bounded head places st p l st' e b =
    let a = passes-by head places st p l st' e in
    subst (λ (s : State). Bounded (describe s)) (sym a.state) (add-bounded st p l a.item a.line b)

-- every table has two rows at least
pub range-rows-least : (k : Kind) (n : ℕ) → in_range k n ≡ true → 2 ≤ rows_of k n
range-rows-least k n e = by k (leb-true 2 n (and_both (leb 2 n) _ e).0)
  where
    by : (k : Kind) → 2 ≤ n → 2 ≤ rows_of k n
    by OneD h = h
    by ThreeD h = let Some : 1 ≤ n = omega arith in mul-le-mul (mul-le-mul h Some) Some

-- a table of as many places as the greatest table needs has room for it
pub room-for-all : (d : Description) → Bounded d → roomy place_limit d ≡ true
unfolding roomy
room-for-all d b = le-leb (3 * rows d) place_limit (omega (arith, b))

-- so a table without room for it is shorter
pub no_room : (places : ℕ) (d : Description) → Bounded d → roomy places d ≡ false → places < place_limit
unfolding roomy
no_room places d b e = omega (arith, b, leb-false (3 * rows d) places e)
