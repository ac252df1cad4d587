-- Document 01, "What the signature covers": the promises of reading, look, picture and, of document 02, writing, the halves of a look and the inverse, over input, answer and lent memory; and that of check, a call of ours.
use Rattle.std.specs.Prelude.{ℕ, ◌≡◌, List, length, ℤ}
use Rattle.rules.specs.Reading.{read, check, table_after}
use Rattle.rules.specs.Looking.{first_half, second_half, look}
use Rattle.rules.specs.Picturing.{picture, output_after}
use Rattle.rules.specs.Writing.{write, bytes_after}
use Rattle.rules.specs.Inverting.{inverse}
use Rattle.rules.specs.Answers.{read_number, read_line, read_description, look_number, look_codes, look_rows, look_weights, first_number, first_rows, first_weights, second_number, second_codes, picture_number, write_number, written_length, inverse_number, inverse_code, inverse_count}
use Rattle.rules.specs.declared.Aim.{Aim}
use Rattle.rules.specs.declared.Bits.{Bits}
use Rattle.rules.specs.declared.Codes.{Codes}
use Rattle.rules.specs.declared.Description.{Description}
use Rattle.rules.specs.declared.Shares.{Shares}
use Rattle.rules.specs.Results.{FirstHalf, Inverse, Look, Picture, Read, SecondHalf, Write}

-- reading the file into the table answers r, and the table is table' afterwards
pub record Reads (file : List ℕ) (table : List ℤ) (r : Read) (table' : List ℤ) : Type 0 where
  pub number : read_number r ≡ read_number (read file (length table))
  pub line : read_line r ≡ read_line (read file (length table))
  pub description : read_description r ≡ read_description (read file (length table))
  pub memory : table' ≡ table_after file table (read file (length table))

-- judging the file with no table answers r
pub record Checks (file : List ℕ) (r : Read) : Type 0 where
  pub number : read_number r ≡ read_number (check file)
  pub line : read_line r ≡ read_line (check file)
  pub description : read_description r ≡ read_description (check file)

-- looking at one pixel, at depths of so many bits, answers r
pub record Looks (d : Description) (table : List ℤ) (bits : Bits) (pixel : Codes) (r : Look) : Type 0 where
  pub number : look_number r ≡ look_number (look d table bits pixel)
  pub codes : look_codes r ≡ look_codes (look d table bits pixel)
  pub rows : look_rows r ≡ look_rows (look d table bits pixel)
  pub weights : look_weights r ≡ look_weights (look d table bits pixel)

-- finding the rows and weights of one pixel, at a raw depth of so many bits, answers r
pub record FindsRows (d : Description) (table : List ℤ) (raw : ℕ) (pixel : Codes) (r : FirstHalf) : Type 0 where
  pub number : first_number r ≡ first_number (first_half d table raw pixel)
  pub rows : first_rows r ≡ first_rows (first_half d table raw pixel)
  pub weights : first_weights r ≡ first_weights (first_half d table raw pixel)

-- giving the codes of six rows and weights, at depths of so many bits, answers r
pub record GivesCodes (d : Description) (table : List ℤ) (bits : Bits) (shares : Shares) (r : SecondHalf) : Type 0 where
  pub number : second_number r ≡ second_number (second_half d table bits shares)
  pub codes : second_codes r ≡ second_codes (second_half d table bits shares)

-- correcting the picture src into dst answers r, and the output is dst' afterwards
pub record Pictures (d : Description) (table : List ℤ) (bits : Bits) (src dst : List ℕ) (r : Picture) (dst' : List ℕ) : Type 0 where
  pub number : picture_number r ≡ picture_number (picture d table bits src (length dst))
  pub memory : dst' ≡ output_after d table bits src dst (picture d table bits src (length dst))

-- writing a table with a title into out answers r, and the bytes are out' afterwards
pub record Writes (d : Description) (table : List ℤ) (title out : List ℕ) (r : Write) (out' : List ℕ) : Type 0 where
  pub number : write_number r ≡ write_number (write d table title (length out))
  pub length_so : written_length r ≡ written_length (write d table title (length out))
  pub memory : out' ≡ bytes_after d table title out (write d table title (length out))

-- looking for the raw code of a wanted one, at depths of so many bits, answers r
pub record Inverts (d : Description) (table : List ℤ) (bits : Bits) (aim : Aim) (r : Inverse) : Type 0 where
  pub number : inverse_number r ≡ inverse_number (inverse d table bits aim)
  pub code : inverse_code r ≡ inverse_code (inverse d table bits aim)
  pub count : inverse_count r ≡ inverse_count (inverse d table bits aim)
