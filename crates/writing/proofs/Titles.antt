-- The bytes of a title: those that are permitted in a line and in a title.
use Prim.Native.Nat.{ℕ}
use mathlib.Core.Path.{◌≡◌, refl, ap₂, ◌∙◌}
use mathlib.Core.Bool.{Bool, true, false, not, ◌&&◌, ◌||◌}
use mathlib.Core.List.{List, [], ◌∷◌}
use borrow.Author.Tests.{eqb-true}
use lib.Dec.{leb, eqb}
use Rattle.rules.specs.Reading.Lines.{every, in_title, permitted, quote}
use Rattle.rules.specs.Writing.{title_byte}

title-byte : (b : ℕ) → title_byte b ≡ permitted b && in_title b
title-byte b = split (eqb b 9) refl
  where
    plain : (low high q : Bool) → low && (high && not q) ≡ (low && high || false) && not (q || false)
    plain true true true = refl
    plain true true false = refl
    plain true false true = refl
    plain true false false = refl
    plain false high q = refl

    split : (t : Bool) → eqb b 9 ≡ t → title_byte b ≡ (leb 32 b && leb b 126 || t) && not (quote b || t)
    split true e = rw (eqb-true b 9 e)
    split false e = plain (leb 32 b) (leb b 126) (quote b)

both : (p q x y : Bool) → (p && q) && (x && y) ≡ (p && x) && (q && y)
both true true x y = refl
both true false true y = refl
both true false false y = refl
both false q x y = refl

pub every-title-byte : (l : List ℕ) → every title_byte l ≡ every permitted l && every in_title l
unfolding every
every-title-byte [] = refl
every-title-byte (b ∷ rest) = ap₂ (λ x y. x && y) (title-byte b) (every-title-byte rest) ∙ both (permitted b) (in_title b) (every permitted rest) (every in_title rest)
