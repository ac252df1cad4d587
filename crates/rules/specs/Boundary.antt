-- The C boundary: a description as eleven numbers, and the promises of the calls by the same definitions.
use Rattle.std.specs.Prelude.{ℕ, ◌+◌, ◌<◌, ◌≡◌, Bool, cond, not, List, [], ◌∷◌, eqb, length, get_or, ℤ, pos, nat_abs, Err, None, Option, Some}
use Rattle.whole.specs.Integers.{up}
use Rattle.rules.specs.Reading.{read, check, table_after}
use Rattle.rules.specs.Looking.{first_half, second_half, look}
use Rattle.rules.specs.Picturing.{pixel_of, picture, output_after}
use Rattle.rules.specs.Writing.{write, bytes_after}
use Rattle.rules.specs.Inverting.{inverse}
use Rattle.rules.specs.Answers.{read_number, read_line, read_description, places_needed, look_number, look_codes, look_rows, look_weights, first_number, first_rows, first_weights, second_number, second_codes, picture_number, write_number, written_length, inverse_number, inverse_code, inverse_count}
use Rattle.rules.specs.declared.Aim.{Aim}
use Rattle.rules.specs.declared.Bits.{Bits}
use Rattle.rules.specs.declared.Codes.{Codes}
use Rattle.rules.specs.declared.Colour.{Colour}
use Rattle.rules.specs.declared.Colour.TheVariants.{Red, Green, Blue}
use Rattle.rules.specs.declared.Description.{Description}
use Rattle.rules.specs.declared.Domain.{Domain}
use Rattle.rules.specs.declared.Kind.{Kind}
use Rattle.rules.specs.declared.Kind.TheVariants.{OneD, ThreeD}
use Rattle.rules.specs.declared.Refusal.TheVariants.{CouldNotBeRead}
use Rattle.rules.specs.declared.Share.{Share}
use Rattle.rules.specs.declared.Shares.{Shares}
use Rattle.rules.specs.declared.Title.{Title}
use Rattle.rules.specs.Results.{FirstHalf, Inverse, Look, Picture, SecondHalf, Write, no_inverse}

-- ---- a description as eleven numbers

-- 1 for 1D, 3 for 3D
abbrev pub kind_number : Kind → ℤ
kind_number OneD = pos 1
kind_number ThreeD = pos 3

-- 0 without a title, 1 with one
abbrev pub mark_number : Bool → ℤ
mark_number there = cond there (pos 1) (pos 0)

-- the kind, N, three lower bounds, three upper bounds, the title's mark, place and length
abbrev pub eleven_of : Description → List ℤ
eleven_of d =
    kind_number d.kind
    ∷ pos d.n
    ∷ d.red.lower.0
    ∷ d.green.lower.0
    ∷ d.blue.lower.0
    ∷ d.red.upper.0
    ∷ d.green.upper.0
    ∷ d.blue.upper.0
    ∷ mark_number d.title.there
    ∷ pos d.title.place
    ∷ pos d.title.length
    ∷ []

abbrev pub number_at : List ℤ → ℕ → ℤ
number_at eleven k = get_or eleven k (pos 0)

-- anything but 1 and 3 is no kind
abbrev pub kind_in : List ℤ → Option Kind
kind_in eleven =
    cond (eqb (up (number_at eleven 0)) 1) (Some OneD)
    (cond (eqb (up (number_at eleven 0)) 3) (Some ThreeD)
    None)

abbrev pub domain_in : List ℤ → ℕ → Domain
domain_in eleven c = record { lower = record { 0 = number_at eleven (2 + c) }; upper = record { 0 = number_at eleven (5 + c) } }

-- a number below 0 counts as 0
abbrev pub count_in : List ℤ → ℕ → ℕ
count_in eleven k = up (number_at eleven k)

-- 0 is without a title, and any other number with one
abbrev pub title_at : List ℤ → Title
title_at eleven = record { there = not (eqb (nat_abs (number_at eleven 8)) 0); place = count_in eleven 9; length = count_in eleven 10 }

-- an N of 0 is out of range too
abbrev pub description_in : List ℤ → Kind → Description
description_in eleven k = record {
  kind = k;
  n = count_in eleven 1;
  red = domain_in eleven 0;
  green = domain_in eleven 1;
  blue = domain_in eleven 2;
  title = title_at eleven;
}

abbrev described_by : List ℤ → Option Kind → Option Description
described_by eleven None = None
described_by eleven (Some k) = Some (description_in eleven k)

-- the description that eleven numbers give, if their first names a kind
unfoldable pub described_in : List ℤ → Option Description
described_in eleven = described_by eleven (kind_in eleven)

-- the pixel of three codes, as they are lent
abbrev pub pixel_in : List ℕ → Codes
pixel_in codes = pixel_of (get_or codes 0 0) (get_or codes 1 0) (get_or codes 2 0)

-- and six rows and weights: row k has weight k
abbrev pub share_in : List ℕ → List ℤ → ℕ → Share
share_in rows weights k = record { row = get_or rows k 0; weight = get_or weights k (pos 0) }

abbrev pub shares_in : List ℕ → List ℤ → Shares
shares_in rows weights = record {
  first = share_in rows weights 0;
  second = share_in rows weights 1;
  third = share_in rows weights 2;
  fourth = share_in rows weights 3;
  fifth = share_in rows weights 4;
  sixth = share_in rows weights 5;
}

-- 0 for red, 1 for green, 2 for blue; anything else is no colour
abbrev pub colour_in : ℕ → Option Colour
colour_in number =
    cond (eqb number 0) (Some Red)
    (cond (eqb number 1) (Some Green)
    (cond (eqb number 2) (Some Blue)
    None))

-- ---- what the numbers that are written can hold: 63 bits for N and a title's place and length, 32 for a row

pub record Crossable (d : Description) : Type 0 where
  pub size : d.n < 9_223_372_036_854_775_808
  pub place : d.title.place < 9_223_372_036_854_775_808
  pub span : d.title.length < 9_223_372_036_854_775_808

unfoldable pub RowsFit : List ℕ → Type 0
RowsFit [] = Unit
RowsFit (row ∷ rows) = (row < 4_294_967_296) × RowsFit rows

-- ---- the calls, of eleven numbers: where these give no description the answer is that of 24

-- a call of a description, and what it answers where there is none
abbrev pub answered : {A : Type 0} → A → (Description → A) → Option Description → A
answered refusal call None = refusal
answered refusal call (Some d) = call d

abbrev pub called : {A : Type 0} → A → (Description → A) → List ℤ → A
called refusal call eleven = answered refusal call (described_in eleven)

abbrev pub look_in : List ℤ → List ℤ → Bits → Codes → Look
look_in eleven table bits pixel = called (Err CouldNotBeRead) (λ d. look d table bits pixel) eleven

abbrev pub first_in : List ℤ → List ℤ → ℕ → Codes → FirstHalf
first_in eleven table raw pixel = called (Err CouldNotBeRead) (λ d. first_half d table raw pixel) eleven

abbrev pub second_in : List ℤ → List ℤ → Bits → Shares → SecondHalf
second_in eleven table bits shares = called (Err CouldNotBeRead) (λ d. second_half d table bits shares) eleven

abbrev pub picture_in : List ℤ → List ℤ → Bits → List ℕ → ℕ → Picture
picture_in eleven table bits src places = called (Err CouldNotBeRead) (λ d. picture d table bits src places) eleven

-- the output afterwards
abbrev pub output_in : List ℤ → List ℤ → Bits → List ℕ → List ℕ → List ℕ
output_in eleven table bits src dst = called dst (λ d. output_after d table bits src dst (picture d table bits src (length dst))) eleven

abbrev pub write_in : List ℤ → List ℤ → List ℕ → ℕ → Write
write_in eleven table title places = called (Err CouldNotBeRead) (λ d. write d table title places) eleven

-- the lent bytes afterwards
abbrev pub bytes_in : List ℤ → List ℤ → List ℕ → List ℕ → List ℕ
bytes_in eleven table title out = called out (λ d. bytes_after d table title out (write d table title (length out))) eleven

abbrev pub aim_at : Colour → ℕ → ℕ → Aim
aim_at c wanted tolerance = record { colour = c; wanted = wanted; tolerance = tolerance }

-- where there is no colour the answer is that of 24 too
abbrev pub inverse_for : Description → List ℤ → Bits → ℕ → ℕ → Option Colour → Inverse
inverse_for d table bits wanted tolerance None = no_inverse CouldNotBeRead 0
inverse_for d table bits wanted tolerance (Some c) = inverse d table bits (aim_at c wanted tolerance)

abbrev pub inverse_in : List ℤ → List ℤ → Bits → ℕ → ℕ → ℕ → Inverse
inverse_in eleven table bits colour wanted tolerance =
    called (no_inverse CouldNotBeRead 0) (λ d. inverse_for d table bits wanted tolerance (colour_in colour)) eleven

-- ---- the promises: the number that is returned, and everything that is lent, afterwards

pub record ReadsC (file : List ℕ) (table : List ℤ) (number : ℕ) (table' eleven' : List ℤ) (line' : ℕ) : Type 0 where
  pub number_so : number ≡ read_number (read file (length table))
  pub line_so : line' ≡ read_line (read file (length table))
  pub description_so : eleven' ≡ eleven_of (read_description (read file (length table)))
  pub memory : table' ≡ table_after file table (read file (length table))

pub record ChecksC (file : List ℕ) (number : ℕ) (eleven' : List ℤ) (line' places' : ℕ) : Type 0 where
  pub number_so : number ≡ read_number (check file)
  pub line_so : line' ≡ read_line (check file)
  pub description_so : eleven' ≡ eleven_of (read_description (check file))
  pub places_so : places' ≡ places_needed (check file)

pub record LooksC (eleven table : List ℤ) (bits : Bits) (pixel : List ℕ) (number : ℕ) (codes' rows' : List ℕ) (weights' : List ℤ) : Type 0 where
  pub number_so : number ≡ look_number (look_in eleven table bits (pixel_in pixel))
  pub codes_so : codes' ≡ look_codes (look_in eleven table bits (pixel_in pixel))
  pub rows_so : rows' ≡ look_rows (look_in eleven table bits (pixel_in pixel))
  pub weights_so : weights' ≡ look_weights (look_in eleven table bits (pixel_in pixel))

pub record FindsRowsC (eleven table : List ℤ) (raw : ℕ) (pixel : List ℕ) (number : ℕ) (rows' : List ℕ) (weights' : List ℤ) : Type 0 where
  pub number_so : number ≡ first_number (first_in eleven table raw (pixel_in pixel))
  pub rows_so : rows' ≡ first_rows (first_in eleven table raw (pixel_in pixel))
  pub weights_so : weights' ≡ first_weights (first_in eleven table raw (pixel_in pixel))

pub record GivesCodesC (eleven table : List ℤ) (bits : Bits) (rows : List ℕ) (weights : List ℤ) (number : ℕ) (codes' : List ℕ) : Type 0 where
  pub number_so : number ≡ second_number (second_in eleven table bits (shares_in rows weights))
  pub codes_so : codes' ≡ second_codes (second_in eleven table bits (shares_in rows weights))

pub record PicturesC (eleven table : List ℤ) (bits : Bits) (src dst : List ℕ) (number : ℕ) (dst' : List ℕ) : Type 0 where
  pub number_so : number ≡ picture_number (picture_in eleven table bits src (length dst))
  pub memory : dst' ≡ output_in eleven table bits src dst

pub record WritesC (eleven table : List ℤ) (title out : List ℕ) (number : ℕ) (out' : List ℕ) (length' : ℕ) : Type 0 where
  pub number_so : number ≡ write_number (write_in eleven table title (length out))
  pub length_so : length' ≡ written_length (write_in eleven table title (length out))
  pub memory : out' ≡ bytes_in eleven table title out

pub record InvertsC (eleven table : List ℤ) (bits : Bits) (colour wanted tolerance : ℕ) (number code' count' : ℕ) : Type 0 where
  pub number_so : number ≡ inverse_number (inverse_in eleven table bits colour wanted tolerance)
  pub code_so : code' ≡ inverse_code (inverse_in eleven table bits colour wanted tolerance)
  pub count_so : count' ≡ inverse_count (inverse_in eleven table bits colour wanted tolerance)
