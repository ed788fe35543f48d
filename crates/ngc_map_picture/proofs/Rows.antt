-- The colours and the pixels of a picture, in order.
use Rattle.std.proofs.Common.{◌≡◌, ℕ, suc, ◌+◌, ◌-◌, ◌*◌, ◌/◌, ◌^◌, ◌<◌, ◌≤◌, List, [], ◌∷◌, ◌++◌, refl, ap, sym, ◌∙◌, arith, append_assoc}
use Rattle.std.proofs.Math.Nat.{div-le_self, le-mul_of_pos_right, mul_comm}
use Rattle.std.proofs.lemmas.Nat.{div_below, mul-add-lt, mul-le}
use Rattle.ngc_map_picture.specs.Maps.{greys, palette, pixel, pixels, scanlines, width}
use Rattle.ngc_map_picture.specs.declared.relief.Relief.{Relief}

pub greys_next : (g : ℕ) → g < 256 → greys g (256 - g) ≡ g ∷ g ∷ g ∷ greys (g + 1) (256 - (g + 1))
unfolding greys
greys_next g h = let e : 256 - g ≡ suc (256 - (g + 1)) = omega (arith, h) in rw e refl

pub pixels_next : (r : Relief) (y x w : ℕ) → x < w → pixels r y x (w - x) ≡ (pixel r x y ∷ []) ++ pixels r y (x + 1) (w - (x + 1))
unfolding pixels
pixels_next r y x w h = let e : w - x ≡ suc (w - (x + 1)) = omega (arith, h) in rw e refl

pub rows_next : (r : Relief) (y n : ℕ) → y < n → scanlines r y (n - y) ≡ ((0 ∷ []) ++ pixels r y 0 (width r)) ++ scanlines r (y + 1) (n - (y + 1))
unfolding scanlines
rows_next r y n h = let e : n - y ≡ suc (n - (y + 1)) = omega (arith, h) in rw e refl

pub no_pixels : (r : Relief) (y x w : ℕ) → w ≤ x → pixels r y x (w - x) ≡ []
unfolding pixels
no_pixels r y x w h = let e : w - x ≡ 0 = omega (arith, h) in rw e refl

pub no_rows : (r : Relief) (y n : ℕ) → n ≤ y → scanlines r y (n - y) ≡ []
unfolding scanlines
no_rows r y n h = let e : n - y ≡ 0 = omega (arith, h) in rw e refl

-- a pixel is in a cell
pub column_of : (c s x : ℕ) → 0 < s → x < c * s → x / s < c
column_of c s x some h = div_below x s c some h

pub placed : (c r s x y : ℕ) → 0 < s → x < c * s → y < r * s → (r - 1 - y / s) * c + x / s < c * r
placed c r s x y some wide high =
    let row : y / s < r = div_below y s r some high in
    mul-add-lt (r - 1 - y / s) c (x / s) r (omega (arith, row)) (div_below x s c some wide)

pub no_greys : (g : ℕ) → 256 ≤ g → greys g (256 - g) ≡ []
unfolding greys
no_greys g h = let e : 256 - g ≡ 0 = omega (arith, h) in rw e refl

-- three bytes more of the palette
pub grey_added : (bytes more : List ℕ) (g : ℕ) → g < 256 → more ≡ bytes ++ (g ∷ g ∷ g ∷ []) →
    more ++ greys (g + 1) (256 - (g + 1)) ≡ bytes ++ greys g (256 - g)
grey_added bytes more g h is =
    ap (λ l. l ++ greys (g + 1) (256 - (g + 1))) is ∙ append_assoc bytes (g ∷ g ∷ g ∷ []) (greys (g + 1) (256 - (g + 1)))
    ∙ ap (λ l. bytes ++ l) (sym (greys_next g h))

pub first_colours : (230 ∷ 0 ∷ 0 ∷ 170 ∷ 200 ∷ 230 ∷ 0 ∷ 40 ∷ 110 ∷ []) ++ greys 3 253 ≡ palette
unfolding palette
first_colours = refl

-- a picture is less than 2^32 pixels wide and high
pub narrow : (c r s : ℕ) → c * r ≤ 4000000 → 0 < r → s ≤ 1000 → c * s < 2 ^ 32
narrow c r s h some few =
    let whole : c ≤ c * r = le-mul_of_pos_right c some in
    let pixels : c * s ≤ 4000000 * 1000 = mul-le c s 4000000 1000 (omega (arith, whole, h)) few in
    omega (arith, pixels)

pub low_picture : (c r s : ℕ) → c * r ≤ 4000000 → 0 < c → s ≤ 1000 → r * s < 2 ^ 32
low_picture c r s h some few = let turned : r * c ≤ 4000000 = rw (mul_comm r c) h in narrow r c s turned some few

pub grey_fits : (high top : ℕ) → high < top → high * 253 / top < 253
grey_fits high top h = div_below (high * 253) top 253 (omega (arith, h)) (omega (arith, h))

pub few_pixels : (m : ℕ) → 1000 / m ≤ 1000
few_pixels m = div-le_self 1000 m

less_none : (n : ℕ) → n ≡ n - 0
less_none n = omega arith

pub all_pixels : (r : Relief) (y n : ℕ) → pixels r y 0 n ≡ pixels r y 0 (n - 0)
all_pixels r y n = ap (pixels r y 0) (less_none n)

pub all_rows : (r : Relief) (n : ℕ) → scanlines r 0 n ≡ scanlines r 0 (n - 0)
all_rows r n = ap (scanlines r 0) (less_none n)
