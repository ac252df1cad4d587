-- A list that is put in front of another, one place at a time: what the loops that fill lent memory keep, and what they end with.
use Prim.Native.Nat.{ℕ, ◌+◌, ◌≤◌, ◌<◌, min}
use mathlib.Core.Path.{◌≡◌, sym, ap, ap₂, ◌∙◌}
use mathlib.Core.List.{List}
use native.Mathlib.Omega.{arith}
use lib.ListN.{length, get_or, take, set}
use lib.Seq.{length-take-le, take_all, take_at}
use Rattle.rules.specs.Memory.{spliced}
use Rattle.rules.proofs.Memory.{splice-none, splice-length, splice-more}
use Rattle.ppm.specs.Raster.{Copied}

-- the first i places are put, of n that are to be
pub record Put (src dst : List ℕ) (n i : ℕ) (dst' : List ℕ) : Type 0 where
  pub count : n ≡ min (length src) (length dst)
  pub reached : i ≤ n
  pub made : dst' ≡ spliced dst 0 (take i src)

-- before the first turn, where m is how many there are to put
pub none-put : {src dst : List ℕ} {m n size : ℕ} → m ≡ size → length src ≡ size → n ≡ min m (length dst) → Put src dst n 0 dst
none-put {src} {dst} of long least = record { count = omega arith; reached = omega arith; made = sym (splice-none dst 0) }

module _ {src dst : List ℕ} {n i : ℕ} {dst' : List ℕ} (p : Put src dst n i dst') where
  so_far : length (take i src) ≡ i
  so_far = length-take-le i src (omega (arith, p.count, p.reached))

  pub put-length : length dst' ≡ length dst
  put-length = ap length p.made ∙ splice-length dst 0 (take i src) (omega (arith, so_far, p.count, p.reached))

  -- the next place is there, and so is what is put into it
  pub put-room : i < n → i < length dst'
  put-room h = omega (arith, put-length, p.count)

  pub put_next : i < n → i < length src
  put_next h = omega (arith, p.count)

  -- one place more
  pub one-put : i < n → {v : ℕ} → v ≡ get_or src i 0 → Put src dst n (i + 1) (set dst' i v)
  one-put h {v} e =
      let here : 0 + i ≡ i = omega arith in
      record {
        count = p.count;
        reached = omega arith;
        made = ap₂ (λ l x. set l i x) p.made e ∙ rw here at (splice-more dst 0 src i 0 (omega (arith, p.count)) (put_next h));
      }

  -- all places
  pub all-put : n ≤ i → Copied src dst n dst'
  all-put h =
      let e : i ≡ n = omega (arith, p.reached) in
      record { count = p.count; within = omega (arith, put-length, p.count); made = p.made ∙ ap (λ k. spliced dst 0 (take k src)) e }

-- where there is room, all is put
pub copied_all : {src dst : List ℕ} {n : ℕ} {dst' : List ℕ} → Copied src dst n dst' → length src ≤ length dst → (n ≡ length src) × (take n dst' ≡ src)
copied_all {src} {dst} {n} {dst'} c room =
    let all : n ≡ length src = omega (arith, c.count) in
    (all, ap (take n) c.made ∙ take_at (take n src) _ n (length-take-le n src (omega arith)) ∙ take_all n src (omega arith))
