-- Three numbers of a line, and N.
use Prim.Native.Nat.{ℕ}
use mathlib.Core.Path.{◌≡◌, refl}
use mathlib.Core.Bool.{Bool, true, false, cond, ◌&&◌}
use mathlib.Core.List.{List, [], ◌∷◌}
use native.Mathlib.Omega.{arith}
use lib.IntN.{ℤ}
use Rattle.rules.specs.Units.{in_range}
use Rattle.rules.specs.Reading.Numerals.{digits, spell}
use Rattle.rules.specs.Reading.Grammar.{ThreeNumbers}
use Rattle.rules.specs.Reading.Numbers.{number_of}
use Rattle.rules.specs.Reading.Contents.{formed, size_of, three_of, valued, values}
use Rattle.rules.specs.declared.Item.{Item}
use Rattle.rules.specs.declared.Item.TheVariants.{OfSize}
use Rattle.rules.specs.declared.Kind.{Kind}
use Rattle.rules.specs.declared.Refusal.{Refusal}
use Rattle.rules.specs.declared.Refusal.TheVariants.{ParametersWrong, SizeOutOfRange}
use Rattle.rules.specs.declared.Three.{Three}
use Rattle.rules.proofs.Reading.Numbers.{exact-of, of-exact}
use Rattle.std.specs.Prelude.{Err, None, Ok, Option, Some}
use Rattle.rules.specs.declared.NumberFault.TheVariants.{Beyond, Finer, Malformed}
use Rattle.rules.specs.Results.{Content, Number}

pub no-wrong : (r : Refusal) (i : Item) → Err r ≡ Ok i → ⊥
no-wrong r i e = let z : ◌≡◌ {A = ℕ} 0 1 = cc in omega arith

valued-says : (unformed beyond finer : Refusal) (x : Number) (next : ℤ → Content) (i : Item) → valued unformed beyond finer x next ≡ Ok i → (v : ℤ) × (x ≡ Ok v) × (next v ≡ Ok i)
valued-says unformed beyond finer (Ok v) next i h = (v, refl, h)
valued-says unformed beyond finer (Err Malformed) next i h = absurd (no-wrong unformed i h)
valued-says unformed beyond finer (Err Beyond) next i h = absurd (no-wrong beyond i h)
valued-says unformed beyond finer (Err Finer) next i h = absurd (no-wrong finer i h)

pub record Tripled (places limit : ℕ) (ws : List (List ℕ)) (next : ℤ → ℤ → ℤ → Content) (i : Item) : Type 0 where
  pub x : ℤ
  pub y : ℤ
  pub z : ℤ
  pub numbers : ThreeNumbers places limit ws x y z
  pub said : next x y z ≡ Ok i

module _ (unformed beyond finer : Refusal) (places limit : ℕ) (next : ℤ → ℤ → ℤ → Content) where
  pub values-say : (ws : List (List ℕ)) (i : Item) → values unformed beyond finer (three_of places limit ws) next ≡ Ok i → Tripled places limit ws next i
  unfolding three_of
  values-say [] i h = absurd (no-wrong unformed i h)
  values-say (a ∷ []) i h = absurd (no-wrong unformed i h)
  values-say (a ∷ b ∷ []) i h = absurd (no-wrong unformed i h)
  values-say (a ∷ b ∷ c ∷ []) i h = split (formed (number_of places limit a) && (formed (number_of places limit b) && formed (number_of places limit c))) h
    where
      all : Option Three
      all = Some (record { first = number_of places limit a; second = number_of places limit b; third = number_of places limit c })

      split : (t : Bool) → values unformed beyond finer (cond t all None) next ≡ Ok i → Tripled places limit (a ∷ b ∷ c ∷ []) next i
      split true g =
          let p = valued-says unformed beyond finer (number_of places limit a) _ i g in
          let q = valued-says unformed beyond finer (number_of places limit b) _ i p.2 in
          let r = valued-says unformed beyond finer (number_of places limit c) _ i q.2 in
          record {
            x = p.0;
            y = q.0;
            z = r.0;
            numbers = record {
              a = a;
              b = b;
              c = c;
              words = refl;
              red = exact-of places limit a p.0 p.1;
              green = exact-of places limit b q.0 q.1;
              blue = exact-of places limit c r.0 r.1;
            };
            said = r.2;
          }
      split false g = absurd (no-wrong unformed i g)
  values-say (a ∷ b ∷ c ∷ d ∷ more) i h = absurd (no-wrong unformed i h)

  pub say-values : (ws : List (List ℕ)) (x y z : ℤ) → ThreeNumbers places limit ws x y z → values unformed beyond finer (three_of places limit ws) next ≡ next x y z
  unfolding three_of
  say-values ws x y z h =
      rw (h.words, of-exact places limit h.a x h.red, of-exact places limit h.b y h.green, of-exact places limit h.c z h.blue)

-- ---- N

pub record Sized (k : Kind) (ws : List (List ℕ)) (i : Item) : Type 0 where
  pub word : List ℕ
  pub words : ws ≡ word ∷ []
  pub digits_so : digits word ≡ true
  pub range : in_range k (spell 0 word) ≡ true
  pub item : i ≡ OfSize (record { kind = k; n = spell 0 word })

pub size-says : (k : Kind) (ws : List (List ℕ)) (i : Item) → size_of k ws ≡ Ok i → Sized k ws i
unfolding size_of
size-says k [] i h = absurd (no-wrong _ i h)
size-says k (w ∷ []) i h = split (digits w) refl (in_range k (spell 0 w)) refl h
  where
    split : (t : Bool) → digits w ≡ t → (u : Bool) → in_range k (spell 0 w) ≡ u
        → cond t (cond u (Ok (OfSize (record { kind = k; n = spell 0 w }))) (Err SizeOutOfRange)) (Err ParametersWrong) ≡ Ok i
        → Sized k (w ∷ []) i
    split false d u e g = absurd (no-wrong _ i g)
    split true d false e g = absurd (no-wrong _ i g)
    split true d true e g = record { word = w; words = refl; digits_so = d; range = e; item = cc }
size-says k (w ∷ v ∷ more) i h = absurd (no-wrong _ i h)

pub says-size : (k : Kind) (w : List ℕ) → digits w ≡ true → in_range k (spell 0 w) ≡ true → size_of k (w ∷ []) ≡ Ok (OfSize (record { kind = k; n = spell 0 w }))
unfolding size_of
says-size k w d r = rw (d, r)
