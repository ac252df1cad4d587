-- What any accepted file gave can be written: it is never refused with 24 or 27. A line has at most 250 bytes, so a title on its line has at most 242.
use Prim.Native.Nat.{ℕ, ◌≤◌}
use mathlib.Core.Path.{◌≡◌, refl, sym, ap, subst, ◌∙◌}
use mathlib.Core.Bool.{Bool, true, false, not, ◌&&◌, ◌||◌}
use mathlib.Core.List.{List, [], ◌∷◌}
use native.Mathlib.Omega.{arith}
use borrow.Author.Tests.{le-leb, not-true}
use lib.Dec.{eqb, leb}
use lib.IntN.{ℤ}
use lib.ListN.{length, length-append}
use Rattle.rules.specs.Descriptions.{could_be_read}
use Rattle.rules.specs.Reading.{read, samples_of, table_after}
use Rattle.rules.specs.Reading.Lines.{bytes, every, in_title, line_limit, lines_of, permitted, quote}
use Rattle.rules.specs.Reading.Items.{named}
use Rattle.rules.specs.Reading.Grammar.{Keeps, TitleLine}
use Rattle.rules.specs.Writing.{title_byte, title_bytes, title_fits, title_limit}
use Rattle.rules.specs.declared.Description.{Description}
use Rattle.rules.specs.declared.Keyword.TheVariants.{ATitle}
use Rattle.rules.specs.declared.Title.{Title}
use Rattle.rules.proofs.Tests.{and_both, both-and, or-none}
use Rattle.rules.proofs.Reading.Acceptance.{accepted-keeps}
use Rattle.rules.proofs.Reading.Bridge.{bridge}
use Rattle.rules.proofs.Reading.Runs.{append-every}
use Rattle.rules.proofs.Reading.Titles.{OnItsLine, title-on-line}
use Rattle.std.specs.Prelude.{Ok}

-- a permitted byte that is neither quote nor tab
plain_byte : (b : ℕ) → permitted b ≡ true → in_title b ≡ true → title_byte b ≡ true
plain_byte b h t =
    let (no-quote, no-tab) = or-none (quote b) (eqb b 9) (not-true _ t) in
    let (low, high) = and_both (leb 32 b) (leb b 126) (without (leb 32 b && leb b 126) (eqb b 9) no-tab h) in
    both-and (leb 32 b) _ low (both-and (leb b 126) _ high (ap not no-quote))
  where
    without : (a c : Bool) → c ≡ false → a || c ≡ true → a ≡ true
    without true c e g = refl
    without false c e g = sym e ∙ g

plain-bytes : (l : List ℕ) → every permitted l ≡ true → every in_title l ≡ true → every title_byte l ≡ true
unfolding every
plain-bytes [] h t = refl
plain-bytes (b ∷ l) h t =
    let (h₁, h₂) = and_both (permitted b) _ h in
    let (t₁, t₂) = and_both (in_title b) _ t in
    both-and (title_byte b) _ (plain_byte b h₁ t₁) (plain-bytes l h₂ t₂)

-- TITLE, a blank and two quotes leave 242 bytes of 250
module _ {p : ℕ} {l : List ℕ} {t : Title} (h : TitleLine p l t) where
  text-short : length l ≤ line_limit → length h.text ≤ title_limit
  unfolding bytes
  text-short short = omega (arith, simp length-append at (ap length h.line), h.gap_there)

  text-permitted : every permitted l ≡ true → every permitted h.text ≡ true
  unfolding every
  text-permitted each =
      let named-on = (append-every permitted h.lead _ (subst (λ (x : List ℕ). every permitted x ≡ true) h.line each)).1 in
      let gap-on = (append-every permitted (named ATitle) _ named-on).1 in
      (append-every permitted h.text _ (append-every permitted h.gap _ gap-on).1).0

-- the bytes of a title on its line are plain, and few enough
on-line-fits : (file : List ℕ) (t : Title) → OnItsLine file t → title_fits true (title_bytes file t) ≡ true
unfolding title_fits
on-line-fits file t h =
    let l = h.titled.line_so in
    rw h.titled.bytes_so
    (both-and _ _ (le-leb _ _ (text-short l h.line_kept.short)) (plain-bytes l.text (text-permitted l h.line_kept.permitted_so) l.text_so))

-- where there is a title it stands on its line; where there is none its bytes are not judged
pub kept-title-fits : (file : List ℕ) (places : ℕ) (d : Description) (samples : List ℤ) → Keeps file places d samples
    → title_fits d.title.there (title_bytes file d.title) ≡ true
unfolding title_fits
kept-title-fits file places d samples k = split d.title.there refl
  where
    split : (there : Bool) → d.title.there ≡ there → title_fits there (title_bytes file d.title) ≡ true
    split true e = on-line-fits file d.title (title-on-line file places d samples k e)
    split false e = refl

-- neither 24 nor 27
pub accepted-writable : (file : List ℕ) (table : List ℤ) (d : Description) → read file (length table) ≡ Ok d
    → (could_be_read d (table_after file table (Ok d)) ≡ true) × (title_fits d.title.there (title_bytes file d.title) ≡ true)
accepted-writable file table d h = (bridge file table d h, kept-title-fits file (length table) d (samples_of (lines_of file)) (accepted-keeps file (length table) d h))
