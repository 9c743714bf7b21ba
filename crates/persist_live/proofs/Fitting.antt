-- A number of 64 bits with a sign is one that a line can give.
use Rattle.std.proofs.Common.{◌≡◌, ◌<◌, ◌^◌, ℕ, ℤ, pos, negsuc, true, nat_lt, rules, tests}
use lib.Signed.{mag}
use Rattle.pst_script.specs.Numerals.{fits_64_bits}

below : (n : ℕ) → n < 2 ^ 63 → nat_lt n (2 ^ 63) ≡ true
below n h = search (rules, tests)

pub fits : (z : ℤ) → mag z < 2 ^ 63 → fits_64_bits z ≡ true
fits (pos n) h = below n h
fits (negsuc n) h = below n h
