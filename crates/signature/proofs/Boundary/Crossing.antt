-- What crosses the C boundary: eleven numbers give back the description that they were made of, and the promises decide everything that is lent.
use Prim.Native.Nat.{ℕ}
use mathlib.Core.Path.{◌≡◌, refl, sym, ap, ◌∙◌}
use mathlib.Core.Logic.{◌↔◌}
use mathlib.Core.List.{List}
use borrow.Author.Tests.{ne_eqb}
use lib.Dec.{eqb}
use lib.IntN.{ℤ, pos, negsuc}
use lib.ListN.{length}
use Rattle.whole.specs.Integers.{up}
use Rattle.rules.specs.Looking.{look}
use Rattle.rules.specs.Picturing.{picture, output_after}
use Rattle.rules.specs.Writing.{write, bytes_after}
use Rattle.rules.specs.Boundary.{eleven_of, number_at, kind_in, title_at, description_in, described_in, look_in, picture_in, output_in, write_in, bytes_in, ReadsC, ChecksC, LooksC, PicturesC, WritesC, called}
use Rattle.rules.specs.declared.Codes.{Codes}
use Rattle.rules.specs.declared.Description.{Description}
use Rattle.rules.specs.declared.Kind.{Kind}
use Rattle.rules.specs.declared.Kind.TheVariants.{OneD, ThreeD}
use mathlib.Core.Bool.{true, false, cond, Bool}
use Rattle.rules.specs.declared.Bits.{Bits}
use Rattle.rules.specs.declared.Domain.{Domain}
use Rattle.rules.specs.declared.Title.{Title}
use Rattle.rules.proofs.Tests.{no-some}
use Rattle.rules.proofs.Boundary.Described.{called-described}
use Rattle.std.specs.Prelude.{None, Option, Some}

-- a description by its kind, for which eleven numbers have 1 and 3, and by its mark, for which they have 0 and 1
crosses-by : (k : Kind) (there : Bool) (n place span : ℕ) (red green blue : Domain)
    → let d : Description = record { kind = k; n = n; red = red; green = green; blue = blue; title = record { there = there; place = place; length = span } } in described_in (eleven_of d) ≡ Some d
unfolding described_in
crosses-by OneD true n place span red green blue = refl
crosses-by OneD false n place span red green blue = refl
crosses-by ThreeD true n place span red green blue = refl
crosses-by ThreeD false n place span red green blue = refl

pub crosses : (d : Description) → described_in (eleven_of d) ≡ Some d
crosses d = crosses-by d.kind d.title.there d.n d.title.place d.title.length d.red d.green d.blue

-- and so does its title
pub title-crosses : (d : Description) → title_at (eleven_of d) ≡ d.title
title-crosses d = by d.title.there
  where
    by : (there : Bool) → let t : Title = record { there = there; place = d.title.place; length = d.title.length } in
        title_at (eleven_of (record { kind = d.kind; n = d.n; red = d.red; green = d.green; blue = d.blue; title = t })) ≡ t
    by true = refl
    by false = refl

-- ---- eleven numbers, whoever made them

-- the kind that a number names
abbrev pub kind_at : ℤ → Option Kind
kind_at z = cond (eqb (up z) 1) (Some OneD) (cond (eqb (up z) 3) (Some ThreeD) None)

kind-none : (z : ℤ) → (kind_at z ≡ None) ↔ ((z ≡ pos 1 → ⊥) × (z ≡ pos 3 → ⊥))
kind-none z = (λ e. (λ q. no-some OneD (ap kind_at (sym q) ∙ e), λ q. no-some ThreeD (ap kind_at (sym q) ∙ e)), by z)
  where
    by : (z : ℤ) → (z ≡ pos 1 → ⊥) × (z ≡ pos 3 → ⊥) → kind_at z ≡ None
    by (pos n) other = rw (ne_eqb n 1 (λ q. other.0 (ap pos q)), ne_eqb n 3 (λ q. other.1 (ap pos q)))
    by (negsuc n) other = refl

module _ (eleven : List ℤ) where
  -- a first number that names a kind gives a description of it, and one that names none gives none
  pub described-kind : (k : Kind) → kind_in eleven ≡ Some k → described_in eleven ≡ Some (description_in eleven k)
  unfolding described_in
  described-kind k e = rw e

  pub described-none : kind_in eleven ≡ None → described_in eleven ≡ None
  unfolding described_in
  described-none e = rw e

  -- and of that kind alone
  pub kind-given : (k : Kind) → kind_in eleven ≡ Some k → (d : Description) → described_in eleven ≡ Some d → d.kind ≡ k
  kind-given k e d described =
      let same : ◌≡◌ {A = Option Description} (Some d) (Some (description_in eleven k)) = sym described ∙ described-kind k e in
      let one : d ≡ description_in eleven k = cc in
      ap (λ x. x.kind) one

  -- they give no description exactly where the first is neither 1 nor 3
  pub no-description : (described_in eleven ≡ None) ↔ ((number_at eleven 0 ≡ pos 1 → ⊥) × (number_at eleven 0 ≡ pos 3 → ⊥))
  no-description = (λ e. (kind-none (number_at eleven 0)).0 (by (kind_in eleven) refl e), λ other. described-none ((kind-none (number_at eleven 0)).1 other))
    where
      by : (o : Option Kind) → kind_in eleven ≡ o → described_in eleven ≡ None → kind_in eleven ≡ None
      by None q e = q
      by (Some k) q e = absurd (no-some (description_in eleven k) (sym (described-kind k q) ∙ e))

-- ---- calls

-- the call of the numbers of a description is the call of that description, whichever call it is
pub call-crosses : {A : Type 0} (refusal : A) (call : Description → A) (d : Description) → called refusal call (eleven_of d) ≡ call d
call-crosses refusal call d = called-described refusal call (eleven_of d) (crosses d)

module _ (d : Description) (table : List ℤ) (bits : Bits) where
  pub look-crosses : (pixel : Codes) → look_in (eleven_of d) table bits pixel ≡ look d table bits pixel
  look-crosses pixel = call-crosses _ (λ e. look e table bits pixel) d

  pub picture-crosses : (src : List ℕ) (places : ℕ) → picture_in (eleven_of d) table bits src places ≡ picture d table bits src places
  picture-crosses src places = call-crosses _ (λ e. picture e table bits src places) d

  pub output-crosses : (src dst : List ℕ) → output_in (eleven_of d) table bits src dst ≡ output_after d table bits src dst (picture d table bits src (length dst))
  output-crosses src dst = call-crosses dst (λ e. output_after e table bits src dst (picture e table bits src (length dst))) d

module _ (d : Description) (table : List ℤ) (title : List ℕ) where
  pub write-crosses : (places : ℕ) → write_in (eleven_of d) table title places ≡ write d table title places
  write-crosses places = call-crosses _ (λ e. write e table title places) d

  pub bytes-cross : (out : List ℕ) → bytes_in (eleven_of d) table title out ≡ bytes_after d table title out (write d table title (length out))
  bytes-cross out = call-crosses out (λ e. bytes_after e table title out (write e table title (length out))) d

-- ---- two answers of a call that meet its promise are equal, and so is everything that was lent

pub reads-c-one : {file : List ℕ} {table t u v w : List ℤ} {m n k l : ℕ} → ReadsC file table m t v k → ReadsC file table n u w l
    → (m ≡ n) × (t ≡ u) × (v ≡ w) × (k ≡ l)
reads-c-one p q =
    (p.number_so ∙ sym q.number_so, p.memory ∙ sym q.memory, p.description_so ∙ sym q.description_so, p.line_so ∙ sym q.line_so)

pub checks-c-one : {file : List ℕ} {v w : List ℤ} {m n k l p q : ℕ} → ChecksC file m v k p → ChecksC file n w l q → (m ≡ n) × (v ≡ w) × (k ≡ l) × (p ≡ q)
checks-c-one a b =
    (a.number_so ∙ sym b.number_so, a.description_so ∙ sym b.description_so, a.line_so ∙ sym b.line_so, a.places_so ∙ sym b.places_so)

pub looks-c-one : {eleven table v w : List ℤ} {bits : Bits} {m n : ℕ} {pixel a b r s : List ℕ} → LooksC eleven table bits pixel m a r v → LooksC eleven table bits pixel n b s w
    → (m ≡ n) × (a ≡ b) × (r ≡ s) × (v ≡ w)
looks-c-one p q = (p.number_so ∙ sym q.number_so, p.codes_so ∙ sym q.codes_so, p.rows_so ∙ sym q.rows_so, p.weights_so ∙ sym q.weights_so)

pub pictures-c-one : {eleven table : List ℤ} {bits : Bits} {m n : ℕ} {src dst a b : List ℕ} → PicturesC eleven table bits src dst m a → PicturesC eleven table bits src dst n b → (m ≡ n) × (a ≡ b)
pictures-c-one p q = (p.number_so ∙ sym q.number_so, p.memory ∙ sym q.memory)

pub writes-c-one : {eleven table : List ℤ} {m n k l : ℕ} {title out a b : List ℕ} → WritesC eleven table title out m a k → WritesC eleven table title out n b l
    → (m ≡ n) × (a ≡ b) × (k ≡ l)
writes-c-one p q = (p.number_so ∙ sym q.number_so, p.memory ∙ sym q.memory, p.length_so ∙ sym q.length_so)
