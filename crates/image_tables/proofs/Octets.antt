-- Lists of octets.
use Rattle.std.proofs.Common.{ℕ, zero, suc, Bool, true, false, cond, List, [], ◌∷◌, ◌++◌, take, replicate, arith}
use Rattle.std.specs.Int.{bytes_low_first}
use Rattle.std.specs.List.{flat_map}
use Rattle.pe_image.specs.Numbers.{u16, u32, u64, zeros}
use Rattle.image_tables.specs.OctetLaws.{AreOctets}

-- ---- lists

pub joined : (xs ys : List ℕ) → AreOctets xs → AreOctets ys → AreOctets (xs ++ ys)
joined [] ys p q = q
joined (x ∷ xs) ys p q = (p.0, joined xs ys p.1 q)

pub taken : (n : ℕ) (xs : List ℕ) → AreOctets xs → AreOctets (take n xs)
taken zero xs all = tt
taken (suc n) [] all = tt
taken (suc n) (x ∷ xs) all = (all.0, taken n xs all.1)

pub repeated : (n : ℕ) → AreOctets (replicate n 0)
repeated zero = tt
repeated (suc n) = (omega arith, repeated n)

pub mapped : {A : Type 0} (f : A → List ℕ) (xs : List A) → ((x : A) → AreOctets (f x))
    → AreOctets (flat_map f xs)
mapped f [] each = tt
mapped f (x ∷ xs) each = joined (f x) (flat_map f xs) (each x) (mapped f xs each)

pub either : (b : Bool) (xs ys : List ℕ) → AreOctets xs → AreOctets ys → AreOctets (cond b xs ys)
either true xs ys p q = p
either false xs ys p q = q

-- ---- numbers as a file has them

number : (i n v : ℕ) → AreOctets (bytes_low_first i n v)
number i zero v = tt
number zero (suc n) v = (omega arith, number 1 n v)
number (suc i) (suc n) v = (omega arith, number (suc (suc i)) n v)

pub two_bytes : (v : ℕ) → AreOctets (u16 v)
unfolding u16
two_bytes v = number 0 2 v

pub four_bytes : (v : ℕ) → AreOctets (u32 v)
unfolding u32
four_bytes v = number 0 4 v

pub eight_bytes : (v : ℕ) → AreOctets (u64 v)
unfolding u64
eight_bytes v = number 0 8 v

pub zero_bytes : (n : ℕ) → AreOctets (zeros n)
unfolding zeros
zero_bytes n = repeated n
