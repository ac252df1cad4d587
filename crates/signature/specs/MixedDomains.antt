-- Document 02, Req 07: 12 is given only where the domains of a 3D table differ and some bound is not whole. Where that is, and reading as it was before.
use Rattle.std.specs.Prelude.{ℕ, ◌≤◌, ◌≡◌, Bool, true, false, cond, List, eqb, None}
use Rattle.rules.specs.Descriptions.{every_colour, narrow, one_domain, ordered, roomy, whole_bounds}
use Rattle.rules.specs.Reading.{read}
use Rattle.rules.specs.Reading.Contents.{content_of}
use Rattle.rules.specs.Reading.Judge.{Fault, State, describe, given, need, together}
use Rattle.rules.specs.declared.Description.{Description}
use Rattle.rules.specs.declared.Kind.TheVariants.{ThreeD}
use Rattle.rules.specs.declared.Refusal.{Refusal}
use Rattle.rules.specs.declared.Refusal.TheVariants.{DomainTooWide, DomainsDiffer, HalfADomain, LowerNotBelowUpper, NoSize, TooLittleRoom}
use Rattle.signature.specs.Before.{read_by}
use Rattle.signature.specs.Heads.{HeadAt}
use Rattle.signature.specs.OneDomain.{agree_before}
use Rattle.rules.specs.Results.{Read, refused_on}

-- ---- where 12 is given

-- there are no data yet, and 9, 19, 10 and 11 let pass what the lines so far describe
pub record UpTo12 (st : State) : Type 0 where
  pub no_rows : st.rows ≡ 0
  pub sized : given st.size ≡ true
  pub both_or_neither : together st.lower st.upper ≡ true
  pub in_order : every_colour ordered (describe st) ≡ true
  pub not_too_wide : every_colour narrow (describe st) ≡ true

-- a 3D table whose domains differ, with all bounds whole or not
pub record Differing (whole : Bool) (st : State) : Type 0 where
  pub passed : UpTo12 st
  pub cube : (describe st).kind ≡ ThreeD
  pub differ : one_domain (describe st) ≡ false
  pub whole_so : every_colour whole_bounds (describe st) ≡ whole

-- the first refusal comes where the head is checked, of such a table
abbrev pub DifferAt : Bool → List ℕ → ℕ → ℕ → Type 0
DifferAt whole = HeadAt (λ before st. Differing whole st)

-- ---- other rules on the domains of a file

module _ (agreed : Description → Bool) where
  -- 9, 19, 10 to 13, with this rule for 12
  unfoldable pub head_agreed : ℕ → State → Fault
  head_agreed places st =
      let d = describe st in
      cond (eqb st.rows 0)
      (need (given st.size) NoSize
      (need (together st.lower st.upper) HalfADomain
      (need (every_colour ordered d) LowerNotBelowUpper
      (need (every_colour narrow d) DomainTooWide
      (need (agreed d) DomainsDiffer
      (need (roomy places d) TooLittleRoom None))))))
      None

-- before: in 3D one domain for all colours
abbrev pub read_one_domain : List ℕ → ℕ → Read
read_one_domain = read_by (head_agreed (λ d. agree_before d.kind d)) content_of

-- a file that was refused with 12 and now is not, since all its bounds are whole; it is refused now, if at all, on no earlier line
pub record Widened (file : List ℕ) (places : ℕ) : Type 0 where
  pub line : ℕ
  pub refused : read_one_domain file places ≡ refused_on DomainsDiffer line
  pub mixed : DifferAt true file places line
  pub not_12 : (n : ℕ) → read file places ≡ refused_on DomainsDiffer n → ⊥
  pub not_earlier : (r : Refusal) (n : ℕ) → read file places ≡ refused_on r n → line ≤ n
