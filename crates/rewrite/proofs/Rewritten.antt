-- What writing leaves is no shorter than its text, and the title that reading found lies within its file.
use Prim.Native.Nat.{ℕ, ◌≤◌}
use mathlib.Core.Path.{◌≡◌, refl, sym, ap, ◌∙◌}
use mathlib.Core.Logic.{◌⊎◌, inl, inr}
use mathlib.Core.Bool.{Bool, true, false, cond}
use mathlib.Core.List.{List, ◌++◌}
use native.Mathlib.Omega.{arith}
use borrow.Author.Tests.{leb-true}
use lib.Dec.{leb}
use lib.IntN.{ℤ}
use lib.ListN.{length, drop, length-append}
use Rattle.rules.specs.Descriptions.{could_be_read, no_title}
use Rattle.rules.specs.Reading.Lines.{lines_of}
use Rattle.rules.specs.Reading.{samples_of}
use Rattle.rules.specs.Demands.{Titled}
use Rattle.rules.specs.Writing.{bytes_after, file_text, title_fits, write}
use Rattle.rules.specs.Promises.{Reads, Writes}
use Rattle.rules.specs.declared.Description.{Description}
use Rattle.rules.specs.declared.Refusal.{Refusal}
use Rattle.rules.specs.declared.Refusal.TheVariants.{TooLittleRoom, CouldNotBeRead, TitleNotPlain}
use Rattle.rules.specs.declared.Title.{Title}
use Rattle.rules.proofs.Answers.{reads-is, writes-is}
use Rattle.rules.proofs.Reading.Acceptance.{accepted-keeps}
use Rattle.rules.proofs.Reading.Titles.{title-or-none, titled-inside}
use Rattle.rewrite.specs.Anew.{Printable, TitleWithin}
use Rattle.std.specs.Prelude.{Err, Ok}
use Rattle.rules.specs.Results.{Write}

-- no refusal is an acceptance
no-acceptance : {r : Refusal} {n : ℕ} → Err r ≡ Ok n → ⊥
no-acceptance e = let z : ◌≡◌ {A = ℕ} 0 1 = cc in omega arith

-- an accepted length is the text's, for which there is room
module _ (d : Description) (table : List ℤ) (title : List ℕ) (places n : ℕ) where
  abbrev text : List ℕ
  text = file_text d table title

  accepted : write d table title places ≡ Ok n → (n ≡ length text) × (n ≤ places)
  unfolding write
  accepted = split (could_be_read d table) (title_fits d.title.there title) (leb (length text) places) (leb-true (length text) places)
    where
      split : (a b c : Bool) → (c ≡ true → length text ≤ places)
          → cond a (cond b (cond c (Ok (length text)) (Err TooLittleRoom)) (Err TitleNotPlain)) (Err CouldNotBeRead) ≡ Ok n
          → (n ≡ length text) × (n ≤ places)
      split true true true room e = let same : length text ≡ n = cc in (sym same, omega (arith, room refl))
      split true true false room e = absurd (no-acceptance e)
      split true false c room e = absurd (no-acceptance e)
      split false b c room e = absurd (no-acceptance e)

module _ {d : Description} {table : List ℤ} {title out out' : List ℕ} where
  pub printable : (r : Write) → Writes d table title out r out' → Printable r out'
  unfolding bytes_after
  printable (Err r) w = tt
  printable (Ok n) w =
      let is = writes-is w in
      let fits = accepted d table title (length out) n (sym is.0) in
      let after : out' ≡ file_text d table title ++ drop n out = is.1 ∙ ap (bytes_after d table title out) (sym is.0) in
      omega (arith, fits, ap length after, length-append (file_text d table title) (drop n out))

-- where there is none, its place and its length are 0
pub within : {file : List ℕ} {old table : List ℤ} {d : Description} → Reads file old (Ok d) table → TitleWithin d file
within {file} {old} {table} {d} r = by (title-or-none file (length old) d (samples_of (lines_of file)) (accepted-keeps file (length old) d (sym (reads-is r).0)))
  where
    by : (d.title ≡ no_title) ⊎ Titled file d.title → TitleWithin d file
    by (inl none) = record { within = omega (arith, ap (λ (t : Title). t.place) none, ap (λ (t : Title). t.length) none) }
    by (inr stands) = record { within = omega (arith, titled-inside file d.title stands) }
