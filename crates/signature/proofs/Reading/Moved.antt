-- Two readings that differ only in what some lines say: the first refuses such a line, or both answer alike.
use Prim.Native.Nat.{ℕ, suc, ◌+◌, ◌*◌}
use mathlib.Core.Path.{◌≡◌, refl, sym, ap, ap₂, ◌∙◌}
use mathlib.Core.Logic.{◌⊎◌, inl, inr}
use mathlib.Core.List.{List, [], ◌∷◌, ◌++◌}
use lib.IntN.{ℤ}
use lib.ListN.{length, drop}
use Rattle.rules.specs.Descriptions.{rows}
use Rattle.rules.specs.Reading.{onward, samples_in, samples_of, table_after}
use Rattle.rules.specs.Reading.Lines.{lines_of}
use Rattle.rules.specs.Reading.Contents.{content_of, form_of}
use Rattle.rules.specs.Reading.Judge.{Fault, State, Verdict, go, head_fault, refuse, start, byte_fault, take_in, unless}
use Rattle.rules.specs.declared.Description.{Description}
use Rattle.rules.specs.declared.Refusal.{Refusal}
use Rattle.rules.proofs.Reading.Threes.{no-wrong}
use Rattle.rules.proofs.Reading.Walk.{no-refused, taken, unless-go}
use Rattle.signature.specs.Before.{judge_by, judges_by, order_by, read_by, read_lines_by, samples_of_by, table_by}
use Rattle.signature.proofs.Reading.Beside.{SameOrStops, walk-beside}
use Rattle.std.specs.Prelude.{Err, None, Ok, Some}
use Rattle.rules.specs.Results.{Content, Read}

module _ (content : ℕ → List ℕ → Content) (Marked : List ℕ → Refusal → Type 0) where
  -- what the first reading has on a line that is read in two ways
  pub record Differs (l : List ℕ) : Type 0 where
    pub refusal : Refusal
    pub wrong : (p : ℕ) → content p l ≡ Err refusal
    pub marked : Marked l refusal

  -- a line says the same in both, or it is such
  abbrev pub SameOrDiffers : List ℕ → Type 0
  SameOrDiffers l = ((p : ℕ) → content p l ≡ content_of p l) ⊎ Differs l

  -- the first stops on such a line, never at the end
  abbrev pub OnMarked : State → List (List ℕ) → Refusal → Type 0
  OnMarked st [] r = ⊥
  OnMarked st (l ∷ ls) r = Marked l r

  module _ (line : (l : List ℕ) → SameOrDiffers l) (places : ℕ) where
    -- a fault of a line's bytes or place comes before what it says
    judged : (st : State) (p : ℕ) (l : List ℕ)
        → (judge_by head_fault content places st p l ≡ judge_by head_fault content_of places st p l)
        ⊎ ((r : Refusal) × (judge_by head_fault content places st p l ≡ refuse r) × Marked l r)
    unfolding judge_by unless take_in
    judged st p l = by (line l)
      where
        otherwise : (k : Differs l) (a b : Fault)
            → (unless a (unless b (take_in st (content p l))) ≡ unless a (unless b (take_in st (content_of p l))))
            ⊎ ((r : Refusal) × (unless a (unless b (take_in st (content p l))) ≡ refuse r) × Marked l r)
        otherwise k (Some s) b = inl refl
        otherwise k None (Some s) = inl refl
        otherwise k None None = inr (k.refusal, rw (k.wrong p), k.marked)

        by : SameOrDiffers l
            → (judge_by head_fault content places st p l ≡ judge_by head_fault content_of places st p l)
            ⊎ ((r : Refusal) × (judge_by head_fault content places st p l ≡ refuse r) × Marked l r)
        by (inl same) = inl (ap (λ (c : Content). unless (byte_fault l) (unless (order_by head_fault places st (form_of l)) (take_in st c))) (same p))
        by (inr k) = otherwise k (byte_fault l) (order_by head_fault places st (form_of l))

    pub lines-moved : (file : List ℕ)
        → SameOrStops (judges_by head_fault content places) (judges_by head_fault content_of places) OnMarked 0 0 start (lines_of file)
    lines-moved file =
        walk-beside _ _ OnMarked (λ st. Unit {0}) (λ st p l st' e h. tt) (λ st p l ls h. judged st p l) (λ st h. inl refl) 0 0 start (lines_of file) tt

    -- where the first accepts, no line says otherwise
    same-samples : (p n : ℕ) (st : State) (ls : List (List ℕ)) (d : Description)
        → read_lines_by (judges_by head_fault content places) p n st ls ≡ Ok d → samples_of_by content ls ≡ samples_of ls
    unfolding read_lines_by samples_of_by samples_of judge_by
    same-samples p n st [] d h = refl
    same-samples p n st (l ∷ ls) d h = by (line l) (judge_by head_fault content places st p l) refl h (λ st'. same-samples (p + length l + 1) (suc n) st' ls d)
      where
        by : SameOrDiffers l → (j : Verdict) → judge_by head_fault content places st p l ≡ j
            → onward (λ st'. read_lines_by (judges_by head_fault content places) (p + length l + 1) (suc n) st' ls) (suc n) j ≡ Ok d
            → ((st' : State) → read_lines_by (judges_by head_fault content places) (p + length l + 1) (suc n) st' ls ≡ Ok d → samples_of_by content ls ≡ samples_of ls)
            → samples_in (content 0 l) ++ samples_of_by content ls ≡ samples_in (content_of 0 l) ++ samples_of ls
        by (inl same) (go st') e g next = ap₂ ◌++◌ (ap samples_in (same 0)) (next st' g)
        by (inr k) (go st') e g next =
            let said = taken st (content p l) st' (unless-go _ _ _ (unless-go _ _ _ e).1).1 in
            absurd (no-wrong k.refusal said.0 (sym (k.wrong p) ∙ said.1))
        by s (refuse r) e g next = absurd (no-refused r (suc n) d g)

    -- so the table afterwards is the same
    pub table-alike : (file : List ℕ) → read_by head_fault content file places ≡ read_by head_fault content_of file places → (table : List ℤ)
        → table_by content file table (read_by head_fault content file places) ≡ table_after file table (read_by head_fault content_of file places)
    unfolding read_by table_by table_after
    table-alike file same table = rw (sym same) (by (read_by head_fault content file places) refl)
      where
        by : (r : Read) → read_by head_fault content file places ≡ r → table_by content file table r ≡ table_after file table r
        by (Ok d) e = ap (λ (vs : List ℤ). vs ++ drop (3 * rows d) table) (same-samples 0 0 start (lines_of file) d e)
        by (Err x) e = refl
