-- A table that was loaded could be read: reading gave it.
use Prim.Native.Nat.{ℕ}
use mathlib.Core.Path.{◌≡◌}
use mathlib.Core.Bool.{true}
use mathlib.Core.List.{List}
use lib.IntN.{ℤ}
use Rattle.rules.specs.Descriptions.{could_be_read}
use Rattle.rules.specs.declared.Description.{Description}
use Rattle.rules.proofs.Reading.Bridge.{reads-bridge}
use Rattle.desk.specs.Loads.{Loads}
use Rattle.desk.proofs.WhatIsLoaded.{first-bytes, table_of}

pub loaded-could : (file : List ℕ) (old : List ℤ) (d : Description) (n : ℕ) (table : List ℤ) → Loads file old (table_of d n) table → could_be_read d table ≡ true
loaded-could file old d n table h = reads-bridge (first-bytes h).reads
