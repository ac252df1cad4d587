-- Document 01, "Lines", as properties: what a number is, and its exact value. Nothing is read here.
use Rattle.std.specs.Prelude.{ℕ, ◌+◌, ◌-◌, ◌*◌, ◌^◌, ◌≤◌, ◌<◌, ◌≡◌, Bool, true, false, cond, ◌&&◌, List, [], ◌∷◌, ◌++◌, length, ℤ, pos, neg_ℤ, nat_abs, ◌*ℤ◌}
use Rattle.rules.specs.Reading.Lines.{digit, e_byte, every, starts}

-- ---- how a number is written

-- a number's parts: its sign, the digits before and after the point, the exponent's sign and digits
pub record Exponent : Type 0 where
  pub down : Bool
  pub power : List ℕ

pub record Numeral : Type 0 where
  pub negative : Bool
  pub whole : List ℕ
  pub fraction : List ℕ
  pub exponent : Exponent

-- digits alone, at least one
unfoldable pub digits : List ℕ → Bool
digits w = starts digit w && every digit w

-- an optional sign
pub data Sign (negative : Bool) (s : List ℕ) : Type 0 where
  unwritten : s ≡ [] → negative ≡ false → Sign negative s
  plus : s ≡ 43 ∷ [] → negative ≡ false → Sign negative s
  minus : s ≡ 45 ∷ [] → negative ≡ true → Sign negative s

-- digits; or digits with a point before, among or after them
pub data Mantissa (m whole fraction : List ℕ) : Type 0 where
  plain : m ≡ whole → fraction ≡ [] → digits whole ≡ true → Mantissa m whole fraction
  pointed : m ≡ whole ++ (46 ∷ fraction) → digits (whole ++ fraction) ≡ true → Mantissa m whole fraction

-- nothing; or e or E, an optional sign, digits
pub data Power (e : List ℕ) (x : Exponent) : Type 0 where
  absent : e ≡ [] → x ≡ record { down = false; power = [] } → Power e x
  written : (mark : ℕ) (s : List ℕ) → e ≡ mark ∷ (s ++ x.power) → e_byte mark ≡ true → Sign x.down s → digits x.power ≡ true → Power e x

-- a word that spells a numeral
pub record Spells (w : List ℕ) (n : Numeral) : Type 0 where
  pub sign : List ℕ
  pub mantissa : List ℕ
  pub power : List ℕ
  pub word : w ≡ sign ++ (mantissa ++ power)
  pub sign_so : Sign n.negative sign
  pub mantissa_so : Mantissa mantissa n.whole n.fraction
  pub power_so : Power power n.exponent

-- ---- its exact value

-- the number that digits spell after a number m
unfoldable pub spell : ℕ → List ℕ → ℕ
spell m [] = m
spell m (b ∷ rest) = spell (m * 10 + (b - 48)) rest

-- a magnitude with its sign
abbrev pub signed : Bool → ℕ → ℤ
signed true n = neg_ℤ (pos n)
signed false n = pos n

-- a numeral's magnitude is over / under, in units of 10 to the -places
abbrev pub over : ℕ → Numeral → ℕ
over places n = spell 0 (n.whole ++ n.fraction) * 10 ^ (places + cond n.exponent.down 0 (spell 0 n.exponent.power))

abbrev pub under : Numeral → ℕ
under n = 10 ^ (length n.fraction + cond n.exponent.down (spell 0 n.exponent.power) 0)

-- a word whose value is v units, exactly, and within the limit
pub record Exact (places limit : ℕ) (w : List ℕ) (v : ℤ) : Type 0 where
  pub numeral : Numeral
  pub spelt : Spells w numeral
  pub equal : pos (under numeral) *ℤ v ≡ signed numeral.negative (over places numeral)
  pub within : nat_abs v ≤ limit

-- a word whose value is beyond the limit
pub record Exceeds (places limit : ℕ) (w : List ℕ) : Type 0 where
  pub numeral : Numeral
  pub spelt : Spells w numeral
  pub beyond : limit * under numeral < over places numeral

-- a word whose value is within the limit and no multiple of the unit
pub record FallsBetween (places limit : ℕ) (w : List ℕ) : Type 0 where
  pub numeral : Numeral
  pub spelt : Spells w numeral
  pub within : over places numeral ≤ limit * under numeral
  pub no_multiple : (k : ℕ) → k * under numeral ≡ over places numeral → ⊥
