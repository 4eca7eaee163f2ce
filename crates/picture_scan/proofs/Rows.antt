-- The rows of a rectangle.
use Rattle.std.proofs.Common.{◌≡◌, ℕ, ◌+◌, ◌*◌, ◌/◌, ◌<◌, ◌≤◌, true, arith}
use Rattle.std.proofs.lemmas.Bool.Decides.{nat_tests}
use Rattle.std.proofs.lemmas.Nat.{mul-le}
use Rattle.std.proofs.Math.Nat.{mul-le-mul_right}
use Rattle.picture_scan.specs.declared.shape.Shape.{Shape}
use Rattle.picture_scan.specs.Rectangle.{is_depth, pixel_octets, row_first, row_octets, rows_octets}

-- a row of the rectangle lies in the rows
pub row_inside : (s : Shape) (row : ℕ) → row < s.y + s.rows → s.x + s.columns ≤ s.width → row_first s row + row_octets s ≤ rows_octets s
row_inside s row h a =
    let down : (row + 1) * s.width ≤ (s.y + s.rows) * s.width = mul-le-mul_right s.width (omega arith) in
    let all : (row * s.width + s.x + s.columns) * pixel_octets s ≤ (s.y + s.rows) * s.width * pixel_octets s = mul-le-mul_right (pixel_octets s) (omega (arith, down)) in
    omega (arith, all)

size_some : (bpp : ℕ) → is_depth bpp ≡ true → 0 < bpp / 8
size_some bpp h = grind (arith, nat_tests)

-- a row has an octet
pub row_some : (s : Shape) → is_depth s.bpp ≡ true → 0 < s.columns → 0 < row_octets s
row_some s d h = omega (arith, mul-le 1 1 s.columns (pixel_octets s) (omega arith) (omega (arith, size_some s.bpp d)))
