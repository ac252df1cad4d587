-- What an accepted answer tells of its file, and that an answer ends as the file's own does.
use Prim.Native.Nat.{ℕ}
use mathlib.Core.Path.{◌≡◌, refl, sym, ap}
use mathlib.Core.List.{List}
use Rattle.rules.specs.Units.{place_limit}
use Rattle.rules.specs.Reading.{read, check}
use Rattle.rules.specs.Answers.{read_number, read_description}
use Rattle.rules.specs.Promises.{Checks}
use Rattle.rules.specs.declared.Description.{Description}
use Rattle.rules.proofs.Answers.{refused-not-0}
use Rattle.rules.proofs.Reading.Bridge.{accepted-in-range}
use Rattle.rules.proofs.Reporting.Lengths.{title-inside}
use Rattle.reporting.specs.Telling.{Tellable}
use Rattle.desk.specs.Outcomes.{outcome_of}
use Rattle.std.specs.Prelude.{Err, Ok}
use Rattle.rules.specs.Results.{Read}

-- an answer with the number and the description of an accepted one is that one
same-accepted : (a : Read) (d : Description) → 0 ≡ read_number a → d ≡ read_description a → a ≡ Ok d
same-accepted (Ok e) d number described = ap Ok (sym described)
same-accepted (Err x) d number described = absurd (refused-not-0 x.reason (sym number))

-- answers with one number end alike
same_end : (a b : Read) → read_number a ≡ read_number b → outcome_of a ≡ outcome_of b
unfolding outcome_of
same_end (Ok d) (Ok e) number = refl
same_end (Ok d) (Err x) number = absurd (refused-not-0 x.reason (sym number))
same_end (Err x) (Ok d) number = absurd (refused-not-0 x.reason number)
same_end (Err x) (Err u) number = refl

module _ (file : List ℕ) where
  pub tellable : {d : Description} → Checks file (Ok d) → Tellable file d
  unfolding check
  tellable {d} c =
      let accepted : read file place_limit ≡ Ok d = same-accepted (read file place_limit) d c.number c.description in
      record {
        range = accepted-in-range file place_limit d accepted;
        title = record { within = title-inside file place_limit d accepted };
      }

  pub ends : {r : Read} → Checks file r → outcome_of r ≡ outcome_of (check file)
  ends {r} c = same_end r (check file) c.number
