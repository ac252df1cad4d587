-- What is fetched from an input, and what loading a table leaves in the lent memory.
use Rattle.std.specs.Prelude.{ℕ, ◌≤◌, ◌≡◌, List, ℤ, length, take, Option, Result, Ok, Err, IfOk, IfSome}
use Rattle.rules.specs.Promises.{Reads}
use Rattle.desk.specs.declared.loading.Table.{Table}
use Rattle.desk.specs.declared.loading.NoTable.{NoTable}
use Rattle.desk.specs.declared.loading.NoTable.TheVariants.{Refused, Unread}
use Rattle.desk.specs.declared.loading.Unfetched.{Unfetched}
use Rattle.rules.specs.Results.{Read}

-- a name's count of bytes is one of the space that it stands in
abbrev pub NameWithin : List ℕ → Option ℕ → Type 0
NameWithin space r = IfSome r (λ n. n ≤ length space)

abbrev pub Fetches : List ℕ → Result ℕ Unfetched → Type 0
Fetches file r = IfOk r (λ n. n ≤ length file)

-- what reading a file of n bytes answers, as it is loaded
abbrev pub loaded_as : ℕ → Read → Result Table NoTable
loaded_as n (Ok d) = Ok (record { description = d; bytes = n })
loaded_as n (Err x) = Err Refused

-- the whole file was read into the table, and r is what reading answers
pub record LoadsAll (file : List ℕ) (old : List ℤ) (r : Result Table NoTable) (table : List ℤ) : Type 0 where
  pub answer : Read
  pub reads : Reads file old answer table
  pub loaded : r ≡ loaded_as (length file) answer

-- of what was fetched: the first bytes are read; where there are none, that is said, and the table is as it was
abbrev pub LoadsOf : Result ℕ Unfetched → List ℕ → List ℤ → Result Table NoTable → List ℤ → Type 0
LoadsOf (Ok n) file old r table = LoadsAll (take n file) old r table
LoadsOf (Err why) file old r table = (r ≡ Err Unread) × (table ≡ old)

-- of whatever could be fetched
pub record Loads (file : List ℕ) (old : List ℤ) (r : Result Table NoTable) (table : List ℤ) : Type 0 where
  pub fetched : Result ℕ Unfetched
  pub fetches : Fetches file fetched
  pub loads : LoadsOf fetched file old r table
