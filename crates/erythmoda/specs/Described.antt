-- A call of a description that crossed as eleven numbers.
use Rattle.std.specs.Prelude.{ℕ, ◌≡◌, List, ℤ, length}
use Rattle.rules.specs.Answers.{look_number, look_codes, look_rows, look_weights, first_number, first_rows, first_weights, second_number, second_codes, picture_number, write_number, written_length, inverse_number, inverse_code, inverse_count}
use Rattle.rules.specs.Boundary.{look_in, first_in, second_in, picture_in, output_in, write_in, bytes_in, inverse_in}
use Rattle.rules.specs.declared.Bits.{Bits}
use Rattle.rules.specs.declared.Codes.{Codes}
use Rattle.rules.specs.declared.Shares.{Shares}
use Rattle.rules.specs.Results.{FirstHalf, Inverse, Look, Picture, SecondHalf, Write}

-- r answers as look of eleven numbers does
pub record LooksIn (eleven table : List ℤ) (bits : Bits) (pixel : Codes) (r : Look) : Type 0 where
  pub number : look_number r ≡ look_number (look_in eleven table bits pixel)
  pub codes : look_codes r ≡ look_codes (look_in eleven table bits pixel)
  pub rows : look_rows r ≡ look_rows (look_in eleven table bits pixel)
  pub weights : look_weights r ≡ look_weights (look_in eleven table bits pixel)

-- r answers as the first half of a look does, of eleven numbers
pub record FindsRowsIn (eleven table : List ℤ) (raw : ℕ) (pixel : Codes) (r : FirstHalf) : Type 0 where
  pub number : first_number r ≡ first_number (first_in eleven table raw pixel)
  pub rows : first_rows r ≡ first_rows (first_in eleven table raw pixel)
  pub weights : first_weights r ≡ first_weights (first_in eleven table raw pixel)

-- r answers as the second half does, of eleven numbers
pub record GivesCodesIn (eleven table : List ℤ) (bits : Bits) (shares : Shares) (r : SecondHalf) : Type 0 where
  pub number : second_number r ≡ second_number (second_in eleven table bits shares)
  pub codes : second_codes r ≡ second_codes (second_in eleven table bits shares)

-- r answers as picture of eleven numbers does, and the output is dst' afterwards
pub record PicturesIn (eleven table : List ℤ) (bits : Bits) (src dst : List ℕ) (r : Picture) (dst' : List ℕ) : Type 0 where
  pub number : picture_number r ≡ picture_number (picture_in eleven table bits src (length dst))
  pub memory : dst' ≡ output_in eleven table bits src dst

-- r answers as write of eleven numbers does, and the bytes are out' afterwards
pub record WritesIn (eleven table : List ℤ) (title out : List ℕ) (r : Write) (out' : List ℕ) : Type 0 where
  pub number : write_number r ≡ write_number (write_in eleven table title (length out))
  pub length_so : written_length r ≡ written_length (write_in eleven table title (length out))
  pub memory : out' ≡ bytes_in eleven table title out

-- r answers as the inverse does, of eleven numbers and a colour's number
pub record InvertsIn (eleven table : List ℤ) (bits : Bits) (colour wanted tolerance : ℕ) (r : Inverse) : Type 0 where
  pub number : inverse_number r ≡ inverse_number (inverse_in eleven table bits colour wanted tolerance)
  pub code : inverse_code r ≡ inverse_code (inverse_in eleven table bits colour wanted tolerance)
  pub count : inverse_count r ≡ inverse_count (inverse_in eleven table bits colour wanted tolerance)
