-- What bytes that do not begin as a P6 picture are, by the first four of them.
use Rattle.std.specs.Prelude.{ℕ, Bool, cond, ◌&&◌, List, eqb, get_or}
use Rattle.ppm.specs.declared.kinds.Kind.{Kind}
use Rattle.ppm.specs.declared.kinds.Kind.TheVariants.{PlainBitmap, PlainGreys, PlainPixels, Bitmap, Greys, Unparted, Pam, Png, Jpeg, Tiff, Other}

-- P1 to P7, by the byte after the P
unfoldable pub netpbm_kind : ℕ → Kind
netpbm_kind number =
    cond (eqb number 49) PlainBitmap
    (cond (eqb number 50) PlainGreys
    (cond (eqb number 51) PlainPixels
    (cond (eqb number 52) Bitmap
    (cond (eqb number 53) Greys
    (cond (eqb number 54) Unparted
    (cond (eqb number 55) Pam Other))))))

-- these are the first four bytes
unfoldable pub four_are : List ℕ → ℕ → ℕ → ℕ → ℕ → Bool
four_are s first second third fourth = eqb (get_or s 0 0) first && (eqb (get_or s 1 0) second && (eqb (get_or s 2 0) third && eqb (get_or s 3 0) fourth))

-- FF D8
unfoldable pub jpeg_or_other : ℕ → ℕ → Kind
jpeg_or_other first second = cond (eqb first 255) (cond (eqb second 216) Jpeg Other) Other

-- P and a number; 89 and PNG; II*, 0 or MM, 0, *
unfoldable pub kind_of : List ℕ → Kind
kind_of s =
    cond (eqb (get_or s 0 0) 80) (netpbm_kind (get_or s 1 0))
    (cond (four_are s 137 80 78 71) Png
    (cond (four_are s 73 73 42 0) Tiff
    (cond (four_are s 77 77 0 42) Tiff
    (jpeg_or_other (get_or s 0 0) (get_or s 1 0)))))
