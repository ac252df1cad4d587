-- The walk over the lines, for a line's own law: the judge lets a line pass just where it says an item that the state admits.
use Prim.Native.Nat.{ℕ, suc, ◌+◌}
use mathlib.Core.Path.{◌≡◌, refl, ap}
use mathlib.Core.List.{List, [], ◌∷◌}
use native.Mathlib.Omega.{arith}
use lib.ListN.{length}
use Rattle.rules.specs.Reading.Grammar.{Line, Lines}
use Rattle.rules.specs.Reading.Contents.{content_by, content_of, form_of}
use Rattle.rules.specs.Reading.Judge.{Fault, Verdict, State, add, byte_fault, describe, end_fault, go, judge, order_fault, refuse, take_in, unless}
use Rattle.rules.specs.Reading.{finish, onward, read_lines}
use Rattle.rules.specs.declared.Item.{Item}
use Rattle.rules.specs.declared.Description.{Description}
use Rattle.rules.specs.declared.Refusal.{Refusal}
use Rattle.rules.proofs.Reading.Order.{form_for, Admits, Admitted, final}
use Rattle.std.specs.Prelude.{Err, None, Ok, Some}
use Rattle.rules.specs.Results.{Content, Read, refused_on}

-- what the judge finds in a line that says an item
pub record Found (p : ℕ) (l : List ℕ) (i : Item) : Type 0 where
  pub bytes-pass : byte_fault l ≡ None
  pub form : form_of l ≡ form_for i
  pub content : content_by (form_for i) p l ≡ Ok i

no-refuse : (r : Refusal) (st : State) → refuse r ≡ go st → ⊥
no-refuse r st e = let z : ◌≡◌ {A = ℕ} 0 1 = cc in omega arith

-- one refusal on one line
pub same-refusal : {r s : Refusal} {m n : ℕ} → refused_on r m ≡ refused_on s n → (r ≡ s) × (m ≡ n)
same-refusal {r} {s} {m} {n} e = (ap reason e, ap line e)
  where
    reason : Read → Refusal
    reason (Ok _) = r
    reason (Err x) = x.reason

    line : Read → ℕ
    line (Ok _) = 0
    line (Err x) = x.line

pub no-refused : (r : Refusal) (n : ℕ) (d : Description) → refused_on r n ≡ Ok d → ⊥
no-refused r n d e = let z : ◌≡◌ {A = ℕ} 0 1 = cc in omega arith

-- the judge lets a line pass: no fault in its bytes or its place, and it says something
pub record Passed (places : ℕ) (st : State) (p : ℕ) (l : List ℕ) (st' : State) : Type 0 where
  pub item : Item
  pub bytes-pass : byte_fault l ≡ None
  pub placed : order_fault places st (form_of l) ≡ None
  pub content : content_of p l ≡ Ok item
  pub state : st' ≡ add st item

pub unless-go : (f : Fault) (j : Verdict) (st : State) → unless f j ≡ go st → (f ≡ None) × (j ≡ go st)
unfolding unless
unless-go None j st h = (refl, h)
unless-go (Some r) j st h = absurd (no-refuse r st h)

pub taken : (st : State) (c : Content) (st' : State) → take_in st c ≡ go st' → (i : Item) × (c ≡ Ok i) × (st' ≡ add st i)
unfolding take_in
taken st (Ok i) st' h = (i, refl, cc)
taken st (Err r) st' h = absurd (no-refuse r st' h)

pub passes : (places : ℕ) (st : State) (p : ℕ) (l : List ℕ) (st' : State) → judge places st p l ≡ go st' → Passed places st p l st'
unfolding judge
passes places st p l st' h =
    let a = unless-go _ _ _ h in
    let b = unless-go _ _ _ a.1 in
    let c = taken st (content_of p l) st' b.1 in
    record { item = c.0; bytes-pass = a.0; placed = b.0; content = c.1; state = c.2 }

pub let-pass : (places : ℕ) (st : State) (p : ℕ) (l : List ℕ) (i : Item) → Found p l i → Admits places st i → judge places st p l ≡ go (add st i)
unfolding judge unless take_in
let-pass places st p l i f a = rw (f.bytes-pass, f.form, a, f.content)

-- ---- the lines of a file, given the law of one line

module _ (find : (p : ℕ) (l : List ℕ) (i : Item) → byte_fault l ≡ None → content_of p l ≡ Ok i → Line p l i)
    (found : (p : ℕ) (l : List ℕ) (i : Item) → Line p l i → Found p l i) where
  -- an accepted file's items
  pub record Walked (places p : ℕ) (st : State) (ls : List (List ℕ)) (d : Description) : Type 0 where
    pub items : List Item
    pub lines : Lines p ls items
    pub admitted : Admitted places st items
    pub ended : end_fault places (final st items) ≡ None
    pub described : d ≡ describe (final st items)

  pub walked : (places p n : ℕ) (st : State) (ls : List (List ℕ)) (d : Description) → read_lines places p n st ls ≡ Ok d → Walked places p st ls d
  unfolding read_lines
  walked places p n st [] d h = split (end_fault places st) refl h
    where
      split : (f : Fault) → end_fault places st ≡ f → finish n st f ≡ Ok d → Walked places p st [] d
      split None e g = record { items = []; lines = tt; admitted = tt; ended = e; described = cc }
      split (Some r) e g = absurd (no-refused r n d g)
  walked places p n st (l ∷ ls) d h = split (judge places st p l) refl h (λ st'. walked places (p + length l + 1) (suc n) st' ls d)
    where
      split : (j : Verdict) → judge places st p l ≡ j → onward (λ st'. read_lines places (p + length l + 1) (suc n) st' ls) (suc n) j ≡ Ok d
          → ((st' : State) → read_lines places (p + length l + 1) (suc n) st' ls ≡ Ok d → Walked places (p + length l + 1) st' ls d)
          → Walked places p st (l ∷ ls) d
      split (go st') e g ih =
          let a : Passed places st p l st' = passes places st p l st' e in
          let k : Line p l a.item = find p l a.item a.bytes-pass a.content in
          let f : Found p l a.item = found p l a.item k in
          let w : Walked places (p + length l + 1) (add st a.item) ls d = ih (add st a.item) (rw a.state at g) in
          record {
            items = a.item ∷ w.items;
            lines = (k, w.lines);
            admitted = (rw f.form at a.placed, w.admitted);
            ended = w.ended;
            described = w.described;
          }
      split (refuse r) e g ih = absurd (no-refused r (suc n) d g)

  pub walk : (places p n : ℕ) (st : State) (ls : List (List ℕ)) (is : List Item) → Lines p ls is → Admitted places st is → end_fault places (final st is) ≡ None
      → read_lines places p n st ls ≡ Ok (describe (final st is))
  unfolding read_lines
  walk places p n st [] [] k a e = rw e
  walk places p n st [] (i ∷ is) k a e = absurd k
  walk places p n st (l ∷ ls) [] k a e = absurd k
  walk places p n st (l ∷ ls) (i ∷ is) k a e =
      rw (let-pass places st p l i (found p l i k.0) a.0) (walk places (p + length l + 1) (suc n) (add st i) ls is k.1 a.1 e)
