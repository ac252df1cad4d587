-- What the judge's checks, and a line's contents, say where they refuse.
use Prim.Native.Nat.{ℕ, ◌<◌}
use mathlib.Core.Path.{◌≡◌, refl, sym, ap, subst, ◌∙◌}
use mathlib.Core.Bool.{Bool, true, false, cond, ◌&&◌}
use mathlib.Core.List.{List, [], ◌∷◌, ◌++◌}
use native.Mathlib.Omega.{arith}
use lib.Dec.{eqb}
use lib.IntN.{ℤ}
use lib.ListN.{length}
use Rattle.rules.specs.Units.{in_range}
use Rattle.rules.specs.Reading.Lines.{quote, blank, in_title, every, after, starts}
use Rattle.rules.specs.Reading.Numerals.{digits, spell}
use Rattle.rules.specs.Reading.Numbers.{number_of}
use Rattle.rules.specs.Reading.Contents.{formed, three_of, valued, values, closes, quoted, size_of}
use Rattle.rules.specs.Reading.Judge.{Fault, State, Verdict, refuse, need, first, unless, take_in, head_fault, given_fault, domain_fault}
use Rattle.rules.specs.declared.Item.{Item}
use Rattle.rules.specs.declared.Item.TheVariants.{OfSize}
use Rattle.rules.specs.declared.Kind.{Kind}
use Rattle.rules.specs.declared.Refusal.{Refusal}
use Rattle.rules.specs.declared.Refusal.TheVariants.{ParametersWrong, SizeOutOfRange, NoSize, HalfADomain, LowerNotBelowUpper, DomainTooWide, DomainsDiffer, TooLittleRoom}
use Rattle.rules.specs.declared.Three.{Three}
use Rattle.rules.proofs.Tests.{no_true, no-some}
use Rattle.rules.proofs.Reading.Runs.{run-append}
use Rattle.pointing.specs.Pointing.{is_value}
use Rattle.pointing.proofs.Meant.{All, is_number, has_value}
use Rattle.std.specs.Prelude.{Err, None, Ok, Option, Some}
use Rattle.rules.specs.declared.NumberFault.TheVariants.{Beyond, Finer, Malformed}
use Rattle.rules.specs.Results.{Content, Number}

-- ---- the checks of the judge: what holds of each refusal of a check, and of the refusals past it, holds of the one that is found

module _ (Q : Refusal → Type 0) {r : Refusal} where
  pub none_is : None ≡ Some r → Q r
  none_is e = absurd (no-some r (sym e))

  pub need-is : (t : Bool) (x : Refusal) (f : Fault) → need t x f ≡ Some r → (t ≡ false → Q x) → (t ≡ true → f ≡ Some r → Q r) → Q r
  unfolding need
  need-is true x f e here past = past refl e
  need-is false x f e here past = let same : x ≡ r = cc in subst Q same (here refl)

  past : (t : Bool) (x : Refusal) (f : Fault) → Q x → (f ≡ Some r → Q r) → need t x f ≡ Some r → Q r
  past t x f here further e = need-is t x f e (λ fails. here) (λ passes. further)

  -- 9, 19, 10 to 13
  pub head-is : (places : ℕ) (st : State) → Q NoSize → Q HalfADomain → Q LowerNotBelowUpper → Q DomainTooWide → Q DomainsDiffer → Q TooLittleRoom → head_fault places st ≡ Some r → Q r
  unfolding head_fault given_fault domain_fault
  head-is places st a b c d f g e = by (eqb st.rows 0) e
    where
      by : (t : Bool) → cond t (given_fault places st) None ≡ Some r → Q r
      by true h = past _ _ _ a (past _ _ _ b (past _ _ _ c (past _ _ _ d (past _ _ _ f (past _ _ _ g none_is))))) h
      by false h = none_is h

  pub first-is : (f g : Fault) → first f g ≡ Some r → (f ≡ Some r → Q r) → (g ≡ Some r → Q r) → Q r
  unfolding first
  first-is None g e here past = past e
  first-is (Some x) g e here past = here e

  pub unless-is : (f : Fault) (j : Verdict) → unless f j ≡ refuse r → (f ≡ Some r → Q r) → (f ≡ None → j ≡ refuse r → Q r) → Q r
  unfolding unless
  unless-is None j e here past = past refl e
  unless-is (Some x) j e here past = let same : x ≡ r = cc in here (ap {B = Fault} Some same)

pub taken-wrong : (st : State) (c : Content) (r : Refusal) → take_in st c ≡ refuse r → c ≡ Err r
unfolding take_in
taken-wrong st (Ok i) r e = let z : ◌≡◌ {A = ℕ} 0 1 = cc in absurd (omega arith)
taken-wrong st (Err x) r e = let same : x ≡ r = cc in ap Err same

-- ---- contents

pub says-wrong : (i : Item) (r : Refusal) → ◌≡◌ {A = Content} (Ok i) (Err r) → ⊥
says-wrong i r e = let z : ◌≡◌ {A = ℕ} 0 1 = cc in omega arith

pub wrong-same : (x r : Refusal) → ◌≡◌ {A = Content} (Err x) (Err r) → x ≡ r
wrong-same x r e = cc

-- a title's refusal, and that there is no quoted text then
pub quoted-wrong : (end : ℕ) (x : List ℕ) (r : Refusal) → quoted end x ≡ Err r → ParametersWrong ≡ r
unfolding quoted
quoted-wrong end [] r e = wrong-same _ r e
quoted-wrong end (b ∷ rest) r e = by (quote b && closes (after in_title rest)) _ e
  where
    by : (t : Bool) (i : Item) → cond t (Ok i) (Err ParametersWrong) ≡ Err r → ParametersWrong ≡ r
    by true i g = absurd (says-wrong i r g)
    by false i g = wrong-same _ r g

pub unquoted : (end : ℕ) (x : List ℕ) (r : Refusal) → quoted end x ≡ Err r → (title trail : List ℕ) → every in_title title ≡ true → every blank trail ≡ true
    → x ≡ 34 ∷ (title ++ (34 ∷ trail)) → ⊥
unfolding quoted closes starts
unquoted end x r e title trail t s so =
    let g : quoted end (34 ∷ (title ++ (34 ∷ trail))) ≡ Err r = ap (quoted end) (sym so) ∙ e in
    says-wrong _ r (rw ((run-append in_title title (34 ∷ trail) t refl).1, s) at g)

-- ---- three numbers

-- they are not three words with the form of numbers; or they are, and the first with no value is beyond the limit or no multiple of the unit
pub data NoThree (unformed beyond finer : Refusal) (places limit : ℕ) (ws : List (List ℕ)) (r : Refusal) : Type 0 where
  by_form : unformed ≡ r → (length ws ≡ 3 → All (is_number places limit) ws → ⊥) → NoThree unformed beyond finer places limit ws r
  by-beyond : (vs : List (List ℕ)) (w : List ℕ) (us : List (List ℕ)) → beyond ≡ r → ws ≡ vs ++ (w ∷ us) → length vs < 3 → All (has_value places limit) vs
      → number_of places limit w ≡ (Err Beyond) → NoThree unformed beyond finer places limit ws r
  by-finer : (vs : List (List ℕ)) (w : List ℕ) (us : List (List ℕ)) → finer ≡ r → ws ≡ vs ++ (w ∷ us) → length vs < 3 → All (has_value places limit) vs
      → number_of places limit w ≡ (Err Finer) → NoThree unformed beyond finer places limit ws r

module _ (unformed beyond finer : Refusal) (places limit : ℕ) (r : Refusal) where
  -- one of the three, with values ahead of it: it is what is wrong, or it has a value and what follows is wrong
  one-wrong : (x : Number) (w : List ℕ) (vs us ws : List (List ℕ)) (next : ℤ → Content) → number_of places limit w ≡ x → formed x ≡ true → ws ≡ vs ++ (w ∷ us) → length vs < 3
      → All (has_value places limit) vs → valued unformed beyond finer x next ≡ Err r
      → ((v : ℤ) → is_value (number_of places limit w) ≡ true → next v ≡ Err r → NoThree unformed beyond finer places limit ws r) → NoThree unformed beyond finer places limit ws r
  one-wrong (Ok v) w vs us ws next is f e n all g past = past v (rw is) g
  one-wrong (Err Malformed) w vs us ws next is f e n all g past = absurd (no_true (sym f))
  one-wrong (Err Beyond) w vs us ws next is f e n all g past = by-beyond vs w us (wrong-same _ r g) e n all is
  one-wrong (Err Finer) w vs us ws next is f e n all g past = by-finer vs w us (wrong-same _ r g) e n all is

  module _ (item : ℤ → ℤ → ℤ → Item) where
    three-wrong : (a b c : List ℕ) → formed (number_of places limit a) ≡ true → formed (number_of places limit b) ≡ true → formed (number_of places limit c) ≡ true
        → values unformed beyond finer (Some (record { first = number_of places limit a; second = number_of places limit b; third = number_of places limit c })) (λ x y z. Ok (item x y z)) ≡ Err r
        → NoThree unformed beyond finer places limit (a ∷ b ∷ c ∷ []) r
    three-wrong a b c fa fb fc g =
        let ws : List (List ℕ) = a ∷ b ∷ c ∷ [] in
        one-wrong (number_of places limit a) a [] (b ∷ c ∷ []) ws _ refl fa refl (omega arith) tt g
        (λ x va g₁. one-wrong (number_of places limit b) b (a ∷ []) (c ∷ []) ws _ refl fb refl (omega arith) (va, tt) g₁
        (λ y vb g₂. one-wrong (number_of places limit c) c (a ∷ b ∷ []) [] ws _ refl fc refl (omega arith) (va, (vb, tt)) g₂
        (λ z vc g₃. absurd (says-wrong _ r g₃))))

    pub values-wrong : (ws : List (List ℕ)) → values unformed beyond finer (three_of places limit ws) (λ x y z. Ok (item x y z)) ≡ Err r → NoThree unformed beyond finer places limit ws r
    unfolding three_of
    values-wrong [] g = by_form (wrong-same _ r g) (λ n all. omega arith)
    values-wrong (a ∷ []) g = by_form (wrong-same _ r g) (λ n all. omega arith)
    values-wrong (a ∷ b ∷ []) g = by_form (wrong-same _ r g) (λ n all. omega arith)
    values-wrong (a ∷ b ∷ c ∷ []) g = by (formed (number_of places limit a)) (formed (number_of places limit b)) (formed (number_of places limit c)) refl refl refl g
      where
        all : Option Three
        all = Some (record { first = number_of places limit a; second = number_of places limit b; third = number_of places limit c })

        by : (t u v : Bool) → formed (number_of places limit a) ≡ t → formed (number_of places limit b) ≡ u → formed (number_of places limit c) ≡ v
            → values unformed beyond finer (cond (t && (u && v)) all None) (λ x y z. Ok (item x y z)) ≡ Err r → NoThree unformed beyond finer places limit (a ∷ b ∷ c ∷ []) r
        by true true true fa fb fc h = three-wrong a b c fa fb fc h
        by true true false fa fb fc h = by_form (wrong-same _ r h) (λ n f. no_true (sym f.1.1.0 ∙ fc))
        by true false v fa fb fc h = by_form (wrong-same _ r h) (λ n f. no_true (sym f.1.0 ∙ fb))
        by false u v fa fb fc h = by_form (wrong-same _ r h) (λ n f. no_true (sym f.0 ∙ fa))
    values-wrong (a ∷ b ∷ c ∷ d ∷ more) g = by_form (wrong-same _ r g) (λ n all. omega arith)

-- ---- N

-- they are not one word with digits alone; or it is, and N by it is out of range
pub data NoSizeIn (k : Kind) (ws : List (List ℕ)) (r : Refusal) : Type 0 where
  by_digits : ParametersWrong ≡ r → (length ws ≡ 1 → All digits ws → ⊥) → NoSizeIn k ws r
  by-range : (w : List ℕ) → SizeOutOfRange ≡ r → ws ≡ w ∷ [] → digits w ≡ true → in_range k (spell 0 w) ≡ false → NoSizeIn k ws r

pub size-wrong : (k : Kind) (ws : List (List ℕ)) (r : Refusal) → size_of k ws ≡ Err r → NoSizeIn k ws r
unfolding size_of
size-wrong k [] r g = by_digits (wrong-same _ r g) (λ n all. omega arith)
size-wrong k (w ∷ []) r g = by (digits w) (in_range k (spell 0 w)) refl refl g
  where
    by : (t u : Bool) → digits w ≡ t → in_range k (spell 0 w) ≡ u
        → cond t (cond u (Ok (OfSize (record { kind = k; n = spell 0 w }))) (Err SizeOutOfRange)) (Err ParametersWrong) ≡ Err r → NoSizeIn k (w ∷ []) r
    by true true d i h = absurd (says-wrong _ r h)
    by true false d i h = by-range w (wrong-same _ r h) refl d i
    by false u d i h = by_digits (wrong-same _ r h) (λ n all. no_true (sym all.0 ∙ d))
size-wrong k (w ∷ v ∷ more) r g = by_digits (wrong-same _ r g) (λ n all. omega arith)
