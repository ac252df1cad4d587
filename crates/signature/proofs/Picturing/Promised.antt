-- What picture's promise decides: every code of an accepted picture is right, a refused one leaves the output as it was.
use Prim.Native.Nat.{ℕ, ◌+◌, ◌*◌}
use mathlib.Core.Path.{◌≡◌, sym, ap, ◌∙◌}
use mathlib.Core.List.{List, ◌++◌}
use native.Mathlib.Omega.{arith}
use lib.ListN.{length, drop, get_or, get_or-append}
use lib.Seq.{drop_at}
use lib.IntN.{ℤ}
use Rattle.rules.specs.Units.{raw_m, colour_place}
use Rattle.rules.specs.Looking.{shown, correct}
use Rattle.rules.specs.Picturing.{corrected, picture, output_after}
use Rattle.rules.specs.Demands.{pixel_at, RightPicture}
use Rattle.rules.specs.Promises.{Pictures}
use Rattle.rules.specs.declared.Bits.{Bits}
use Rattle.rules.specs.declared.Description.{Description}
use Rattle.rules.specs.declared.Refusal.{Refusal}
use Rattle.signature.proofs.Picturing.Codes.{PicturePassed, picture-passed, PictureCodes, picture-codes, output-length}
use Rattle.rules.proofs.Colours.{place-below}
use Rattle.rules.proofs.Looking.Demand3.{right}
use Rattle.rules.proofs.KnownDepths.{depths-bounds}
use Rattle.rules.proofs.Answers.{pictures-is}
use Rattle.std.specs.Prelude.{Err, Ok}
use Rattle.rules.specs.Results.{Picture}

module _ {d : Description} {table : List ℤ} {bits : Bits} {src dst dst' : List ℕ} where
  -- a refusal leaves the output as it was
  pub picture-unchanged : {reason : Refusal} → Pictures d table bits src dst (Err reason) dst' → dst' ≡ dst
  unfolding output_after
  picture-unchanged p = p.memory ∙ ap (output_after d table bits src dst) (sym (pictures-is p).0)

  -- the output keeps its length
  pub pictures-length : {r : Picture} → Pictures d table bits src dst r dst' → length dst' ≡ length dst
  pictures-length p = ap length p.memory ∙ output-length d table bits src dst

  pub pictures-right : Pictures d table bits src dst (Ok tt) dst' → RightPicture d table bits src dst dst'
  unfolding output_after
  pictures-right h =
      record {
        depths = q.depths;
        known = q.known;
        whole = p.whole;
        room = p.room;
        as_long = pictures-length h;
        later = ap (drop (length src)) output ∙ drop_at codes rest (length src) q.as_long;
        pixels = λ k inside. record {
          codes = correct d table q.depths (pixel_at src k);
          shares = shown d (raw_m q.depths) (pixel_at src k) d.kind;
          written = λ c.
              ap (λ x. get_or x (3 * k + colour_place c) 0) output
              ∙ get_or-append codes rest 0 (3 * k + colour_place c) (omega (arith, inside, place-below c, p.whole, q.as_long))
              ∙ q.the_same k inside c;
          all_right = right d table q.depths (pixel_at src k) p.could (depths-bounds bits q.depths q.known).0.0;
        };
      }
    where
      accepted : picture d table bits src (length dst) ≡ (Ok tt)
      accepted = sym (pictures-is h).0

      p : PicturePassed d table bits src (length dst)
      p = picture-passed d table bits src (length dst) accepted

      q : PictureCodes d table bits src
      q = picture-codes d table bits src (length dst) accepted

      codes : List ℕ
      codes = corrected d table bits src

      rest : List ℕ
      rest = drop (length src) dst

      output : dst' ≡ codes ++ rest
      output = h.memory ∙ ap (output_after d table bits src dst) accepted
