-- A table that was loaded is what reading the first bytes of the space answers, and no two answers can be loaded of one file.
use Prim.Native.Nat.{ℕ, ◌≤◌}
use mathlib.Core.Path.{◌≡◌, refl, sym, ap, subst, ◌∙◌}
use mathlib.Core.List.{List}
use native.Mathlib.Omega.{arith}
use lib.IntN.{ℤ}
use lib.ListN.{length, take}
use lib.Seq.{length-take-le}
use Rattle.rules.specs.Answers.{read_number, read_description}
use Rattle.rules.specs.Promises.{Reads}
use Rattle.rules.specs.declared.Description.{Description}
use Rattle.rules.proofs.Answers.{refused-not-0}
use Rattle.desk.specs.Loads.{Fetches, Loads, LoadsAll, LoadsOf, loaded_as}
use Rattle.std.specs.Prelude.{Result, Ok, Err}
use Rattle.desk.specs.declared.loading.Table.{Table}
use Rattle.desk.specs.declared.loading.NoTable.{NoTable}
use Rattle.desk.specs.declared.loading.NoTable.TheVariants.{Unread}
use Rattle.desk.specs.declared.loading.Unfetched.{Unfetched}
use Rattle.desk.specs.declared.loading.Unfetched.TheVariants.{Failed}
use Rattle.rules.specs.Results.{Read}

-- ---- what was fetched, by its case

module _ (file : List ℕ) (old table : List ℤ) (r : Result Table NoTable) {f : Result ℕ Unfetched} where
  pub of-bytes-fetched : {n : ℕ} → f ≡ Ok n → LoadsAll (take n file) old r table → LoadsOf f file old r table
  of-bytes-fetched e l = subst (λ x. LoadsOf x file old r table) (sym e) l

module _ (file : List ℕ) (old : List ℤ) {f : Result ℕ Unfetched} where
  pub of-none-fetched : {why : Unfetched} → f ≡ Err why → LoadsOf f file old (Err Unread) old
  of-none-fetched e = subst (λ x. LoadsOf x file old (Err Unread) old) (sym e) (refl, refl)

-- nothing was fetched
pub unread : (file : List ℕ) (old : List ℤ) → Loads file old (Err Unread) old
unread file old = record { fetched = Err Failed; fetches = tt; loads = (refl, refl) }

-- ---- a table that was loaded

abbrev pub table_of : Description → ℕ → Result Table NoTable
table_of d n = Ok (record { description = d; bytes = n })

-- the count of bytes is one of the space's, and the table is what reading them gives
pub record OfFirstBytes (file : List ℕ) (old : List ℤ) (d : Description) (n : ℕ) (table : List ℤ) : Type 0 where
  pub within : n ≤ length file
  pub reads : Reads (take n file) old (Ok d) table

module _ {file : List ℕ} {old table : List ℤ} {d : Description} {n : ℕ} where
  of_bytes : (k : ℕ) → k ≤ length file → LoadsAll (take k file) old (table_of d n) table → OfFirstBytes file old d n table
  of_bytes k h l = by l.answer l.reads l.loaded
    where
      by : (a : Read) → Reads (take k file) old a table → table_of d n ≡ loaded_as (length (take k file)) a → OfFirstBytes file old d n table
      by (Ok e) reads loaded =
          let one : ◌≡◌ {A = Table} (record { description = d; bytes = n }) (record { description = e; bytes = length (take k file) }) = cc in
          let same : d ≡ e = ap (λ x. x.description) one in
          let count : n ≡ length (take k file) = ap (λ x. x.bytes) one in
          let all : n ≡ k = count ∙ length-take-le k file h in
          record { within = omega arith; reads = subst (λ m. Reads (take m file) old (Ok d) table) (sym all) (subst (λ x. Reads (take k file) old (Ok x) table) (sym same) reads) }
      by (Err x) reads loaded = let z : ◌≡◌ {A = ℕ} 0 1 = cc in absurd (omega arith)

  pub first-bytes : Loads file old (table_of d n) table → OfFirstBytes file old d n table
  first-bytes l = by l.fetched l.fetches l.loads
    where
      by : (f : Result ℕ Unfetched) → Fetches file f → LoadsOf f file old (table_of d n) table → OfFirstBytes file old d n table
      by (Ok k) h all = of_bytes k h all
      by (Err why) h none = let e = none.0 in let z : ◌≡◌ {A = ℕ} 0 1 = cc in absurd (omega arith)

-- ---- one answer alone

-- what is loaded goes by the number and the description of reading's answer
same-loaded : (n : ℕ) (a b : Read) → read_number a ≡ read_number b → read_description a ≡ read_description b → loaded_as n a ≡ loaded_as n b
same-loaded n (Ok d) (Ok e) number described = ap (λ x. table_of x n) described
same-loaded n (Ok d) (Err x) number described = absurd (refused-not-0 x.reason (sym number))
same-loaded n (Err x) (Ok d) number described = absurd (refused-not-0 x.reason number)
same-loaded n (Err x) (Err u) number described = refl

module _ {file : List ℕ} {old table table' : List ℤ} {r s : Result Table NoTable} where
  -- of a file that is all there
  pub loads-all-one : LoadsAll file old r table → LoadsAll file old s table' → (r ≡ s) × (table ≡ table')
  loads-all-one a b =
      let x = a.reads in
      let y = b.reads in
      let same : loaded_as (length file) a.answer ≡ loaded_as (length file) b.answer = same-loaded (length file) a.answer b.answer (x.number ∙ sym y.number) (x.description ∙ sym y.description) in
      (a.loaded ∙ same ∙ sym b.loaded, x.memory ∙ sym y.memory)

-- and of what was fetched
module _ (file : List ℕ) (old : List ℤ) {table table' : List ℤ} {r s : Result Table NoTable} where
  pub loads-one : (f : Result ℕ Unfetched) → LoadsOf f file old r table → LoadsOf f file old s table' → (r ≡ s) × (table ≡ table')
  loads-one (Ok n) a b = loads-all-one a b
  loads-one (Err why) a b = (a.0 ∙ sym b.0, a.1 ∙ sym b.1)
