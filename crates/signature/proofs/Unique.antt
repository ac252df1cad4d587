-- Each promise decides its answer and the memory afterwards: two answers that meet it for the same input are equal.
use Prim.Native.Nat.{ℕ}
use mathlib.Core.Path.{◌≡◌, sym, ◌∙◌}
use mathlib.Core.List.{List}
use lib.IntN.{ℤ}
use Rattle.rules.specs.Promises.{Reads, Checks, Looks, FindsRows, GivesCodes, Pictures, Writes, Inverts}
use Rattle.rules.specs.declared.Aim.{Aim}
use Rattle.rules.specs.declared.Bits.{Bits}
use Rattle.rules.specs.declared.Codes.{Codes}
use Rattle.rules.specs.declared.Description.{Description}
use Rattle.rules.specs.declared.Shares.{Shares}
use Rattle.rules.proofs.Answers.{checks-is, looks-is, finds-is, gives-is, pictures-is, reads-is, writes-is, inverts-is}
use Rattle.rules.specs.Results.{FirstHalf, Inverse, Look, Picture, Read, SecondHalf, Write}

module _ {d : Description} {table : List ℤ} {bits : Bits} {pixel : Codes} where
  pub looks-one : {r s : Look} → Looks d table bits pixel r → Looks d table bits pixel s → r ≡ s
  looks-one p q = looks-is p ∙ sym (looks-is q)

-- of the first half of a look its number, rows and weights
pub finds-one : {d : Description} {table : List ℤ} {raw : ℕ} {pixel : Codes} {r s : FirstHalf} → FindsRows d table raw pixel r → FindsRows d table raw pixel s → r ≡ s
finds-one p q = finds-is p ∙ sym (finds-is q)

-- of the second its number and codes
pub gives_one : {d : Description} {table : List ℤ} {bits : Bits} {shares : Shares} {r s : SecondHalf}
    → GivesCodes d table bits shares r → GivesCodes d table bits shares s → r ≡ s
gives_one p q = gives-is p ∙ sym (gives-is q)

module _ {d : Description} {table : List ℤ} {bits : Bits} {src dst : List ℕ} where
  pub pictures-one : {r s : Picture} {dst' dst'' : List ℕ} → Pictures d table bits src dst r dst' → Pictures d table bits src dst s dst'' → (r ≡ s) × (dst' ≡ dst'')
  pictures-one p q = ((pictures-is p).0 ∙ sym (pictures-is q).0, p.memory ∙ sym q.memory)

module _ {d : Description} {table : List ℤ} {title out : List ℕ} where
  pub writes_one : {r s : Write} {out' out'' : List ℕ} → Writes d table title out r out' → Writes d table title out s out'' → (r ≡ s) × (out' ≡ out'')
  writes_one p q = ((writes-is p).0 ∙ sym (writes-is q).0, p.memory ∙ sym q.memory)

-- of the inverse its number, code and count
pub inverts-one : {d : Description} {table : List ℤ} {bits : Bits} {aim : Aim} {r s : Inverse} → Inverts d table bits aim r → Inverts d table bits aim s → r ≡ s
inverts-one p q = inverts-is p ∙ sym (inverts-is q)

module _ {file : List ℕ} {table : List ℤ} where
  pub reads-one : {r s : Read} {table' table'' : List ℤ} → Reads file table r table' → Reads file table s table'' → (r ≡ s) × (table' ≡ table'')
  reads-one p q = ((reads-is p).0 ∙ sym (reads-is q).0, p.memory ∙ sym q.memory)

pub checks-one : {file : List ℕ} {r s : Read} → Checks file r → Checks file s → r ≡ s
checks-one p q = checks-is p ∙ sym (checks-is q)
