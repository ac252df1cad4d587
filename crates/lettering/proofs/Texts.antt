-- A text put byte by byte, and texts put one after another, which are one text.
use Prim.Native.Nat.{ℕ, ◌+◌, ◌≤◌, ◌<◌}
use mathlib.Core.Path.{◌≡◌, refl, sym, ap, ap₂, ◌∙◌}
use mathlib.Core.List.{List, [], ◌∷◌, ◌++◌, append_assoc}
use native.Mathlib.Omega.{arith}
use lib.ListN.{length, take, get_or, set, length-append}
use lib.Seq.{take-length, length-take-le}
use Rattle.rules.specs.Memory.{spliced}
use Rattle.rules.proofs.Memory.{splice-none, splice-length, splice-both, splice-more}
use Rattle.lettering.specs.Putting.{Room, Puts}

-- ---- byte by byte

-- out is out₀ with the first i bytes of the text from place `at` on
pub record PutInPart (out₀ : List ℕ) (at : ℕ) (text : List ℕ) (i : ℕ) (out : List ℕ) : Type 0 where
  pub some : i ≤ length text
  pub memory : out ≡ spliced out₀ at (take i text)

module _ {out₀ : List ℕ} {at : ℕ} {text : List ℕ} {i : ℕ} {out : List ℕ} (p : PutInPart out₀ at text i out) (room : Room out₀ at text) where
  pub part_length : length out ≡ length out₀
  part_length = ap length p.memory ∙ splice-length out₀ at (take i text) (omega (arith, room.fits, p.some, length-take-le i text p.some))

  pub one_more : i < length text → PutInPart out₀ at text (i + 1) (set out (at + i) (get_or text i 0))
  one_more h = record { some = omega arith; memory = ap (λ o. set o (at + i) (get_or text i 0)) p.memory ∙ splice-more out₀ at text i 0 (omega (arith, room.fits)) h }

  pub all-put : length text ≤ i → Puts out₀ at text (at + length text) out
  all-put h =
      let all : i ≡ length text = omega (arith, p.some) in
      record { fits = room.fits; after = refl; memory = p.memory ∙ ap (spliced out₀ at) (ap (λ n. take n text) all ∙ take-length text) }

-- no byte
pub nothing_put : (out : List ℕ) (at : ℕ) → at ≤ length out → Puts out at [] at out
nothing_put out at h = record { fits = omega arith; after = omega arith; memory = sym (splice-none out at) }

-- ---- text after text

-- room for two texts is room for the first
pub first-room : {out : List ℕ} {at : ℕ} (a b : List ℕ) → Room out at (a ++ b) → Room out at a
first-room a b room = record { fits = omega (arith, room.fits, length-append a b) }

module _ {out : List ℕ} {at : ℕ} {a : List ℕ} {mid : ℕ} {out' : List ℕ} (p : Puts out at a mid out') where
  -- as many bytes as before
  pub puts-length : length out' ≡ length out
  puts-length = ap length p.memory ∙ splice-length out at a p.fits

  -- after the first text there is room for the second
  pub next-room : (b : List ℕ) → Room out at (a ++ b) → Room out' mid b
  next-room b room = record { fits = omega (arith, room.fits, length-append a b, p.after, puts-length) }

  -- two texts are one
  pub puts-both : {b : List ℕ} {r : ℕ} {out'' : List ℕ} → Puts out' mid b r out'' → Puts out at (a ++ b) r out''
  puts-both {b} {r} {out''} q = record {
    fits = omega (arith, q.fits, length-append a b, p.after, puts-length);
    after = omega (arith, q.after, length-append a b, p.after);
    memory = q.memory ∙ ap₂ (λ o n. spliced o n b) p.memory p.after ∙ splice-both out at a b p.fits;
  }

-- of three, after the first there is room for the second
pub next-part : {out : List ℕ} {at : ℕ} {a : List ℕ} {mid : ℕ} {out' : List ℕ} (b more : List ℕ) → Puts out at a mid out' → Room out at (a ++ (b ++ more)) → Room out' mid b
next-part b more p room = first-room b more (next-room p (b ++ more) room)

-- a text with the byte that ends it, which stands first: there is room for it
pub first_field : {out : List ℕ} {at : ℕ} (f : List ℕ) (end : ℕ) (more : List ℕ) → Room out at (f ++ (end ∷ more)) → Room out at (f ++ (end ∷ []))
first_field f end more room = first-room (f ++ (end ∷ [])) more (rw (append_assoc f (end ∷ []) more) room)
