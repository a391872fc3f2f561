-- Accesses inside the rest of a page.
use Rattle.std.proofs.Common.{Ok, Err, ◌≡◌, ℕ, zero, suc, ◌+◌, ◌*◌, ◌%◌, ◌^◌, ◌<◌, ◌≤◌, Bool, true, false, Option, Some, None, refl, sym, ap, ◌∙◌, arith, List, ◌∷◌, ◌++◌, length, take, drop, get_or, drop-cons}
use Rattle.seh_num.specs.declared.width.Width.{Width}
use Rattle.seh_num.specs.declared.width.Width.TheVariants.{W8, W16, W32, W64}
use Rattle.x64_memory.specs.Words.{bytes_of, Protection, Memory, next, executable, may_read, may_write, first_refused, number_at, access, refused, loaded, stored, is_readable, is_writable, IsRestOfPage}
use Rattle.x64_memory.proofs.Steps.{first_refused-here}
use Rattle.byteorder.specs.Endian.{little_from, little_number}

-- the number in some bytes, from the i-th on
number_from : (byte : ℕ → ℕ) (xs : List ℕ) (at i n : ℕ)
    → ((j : ℕ) → j < i + n → byte (at + j) ≡ get_or xs j 0) → at + (i + n) ≤ 2 ^ 64
    → number_at byte n (at + i) ≡ little_from i n xs
unfolding number_at
number_from byte xs at i zero h le = refl
number_from byte xs at i (suc zero) h le = ap (λ b. b + 256 * 0) (h i (omega arith))
number_from byte xs at i (suc (suc n)) h le =
    let here : next (at + i) ≡ at + suc i = omega arith in
    ap (λ a. byte (at + i) + 256 * number_at byte (suc n) a) here
    ∙ ap (λ b. b + 256 * number_at byte (suc n) (at + suc i)) (h i (omega arith))
    ∙ ap (λ v. get_or xs i 0 + 256 * v) (number_from byte xs at (suc i) (suc n)
    (λ j lt. h j (omega arith)) (omega arith))

pub number_of_stretch : (m : Memory) (at : ℕ) (protection : Protection) (bytes : List ℕ) (n : ℕ)
    → IsRestOfPage m at protection bytes → n ≤ length bytes
    → number_at m.byte n at ≡ little_number n bytes
number_of_stretch m at protection bytes n s le =
    let e : at + 0 ≡ at = omega arith in
    ap (number_at m.byte n) (sym e) ∙ number_from m.byte bytes at 0 n
    (λ j lt. s.bytes_are j (omega arith)) (let i = s.inside in omega arith)

all_may : (may : ℕ → Bool) (n at : ℕ) → ((j : ℕ) → j < n → may (at + j) ≡ true) → at + n ≤ 2 ^ 64
    → first_refused may n at ≡ None
unfolding first_refused
all_may may zero at h le = refl
all_may may (suc zero) at h le = let e : at + 0 ≡ at = omega arith in
    rw (sym (ap may e) ∙ h 0 (omega arith)) refl
all_may may (suc (suc n)) at h le =
    let e : at + 0 ≡ at = omega arith in
    let here : next at ≡ at + 1 = omega arith in
    let first : may at ≡ true = sym (ap may e) ∙ h 0 (omega arith) in
    rw first (ap (first_refused may (suc n)) here
    ∙ all_may may (suc n) (at + 1) (λ j lt. let f : at + 1 + j ≡ at + suc j = omega arith in
    ap may f ∙ h (suc j) (omega arith)) (omega arith))

pub readable_stretch : (m : Memory) (at : ℕ) (protection : Protection) (bytes : List ℕ) (n : ℕ)
    → IsRestOfPage m at protection bytes → n ≤ length bytes → is_readable protection.rights ≡ true
    → first_refused (may_read m) n at ≡ None
readable_stretch m at protection bytes n s le r =
    all_may (may_read m) n at (λ j lt. ap (λ (x : Protection). is_readable x.rights)
    (s.modes j (omega arith)) ∙ r) (let i = s.inside in omega arith)

pub writable_stretch : (m : Memory) (at : ℕ) (protection : Protection) (bytes : List ℕ) (n : ℕ)
    → IsRestOfPage m at protection bytes → n ≤ length bytes → is_writable protection.rights ≡ true
    → first_refused (may_write m) n at ≡ None
writable_stretch m at protection bytes n s le r =
    all_may (may_write m) n at (λ j lt. ap (λ (x : Protection). is_writable x.rights)
    (s.modes j (omega arith)) ∙ r) (let i = s.inside in omega arith)

-- the executable bytes of the rest of a page, and those after it
executable-step : (m : Memory) (k a : ℕ) → (m.protection a).execute ≡ true
    → executable m (suc k) a ≡ m.byte a ∷ executable m k (next a)
unfolding executable
executable-step m k a t = rw t refl

executable_from : (m : Memory) (xs : List ℕ) (at i n k : ℕ)
    → ((j : ℕ) → j < i + n → (m.protection (at + j)).execute ≡ true)
    → ((j : ℕ) → j < i + n → m.byte (at + j) ≡ get_or xs j 0) → i + n ≤ length xs
    → at + (i + n) ≤ 2 ^ 64 → executable m (n + k) ((at + i) % 2 ^ 64)
    ≡ take n (drop i xs) ++ executable m k ((at + (i + n)) % 2 ^ 64)
executable_from m xs at i zero k x b le inside =
    let count : 0 + k ≡ k = omega arith in
    let place : (at + i) % 2 ^ 64 ≡ (at + (i + 0)) % 2 ^ 64 = omega arith in
    ap (λ q. executable m q ((at + i) % 2 ^ 64)) count ∙ ap (executable m k) place
executable_from m xs at i (suc n) k x b le inside =
    let count : suc n + k ≡ suc (n + k) = omega arith in
    let place : (at + i) % 2 ^ 64 ≡ at + i = omega arith in
    let after : next (at + i) ≡ (at + suc i) % 2 ^ 64 = omega arith in
    let end : (at + (suc i + n)) % 2 ^ 64 ≡ (at + (i + suc n)) % 2 ^ 64 = omega arith in
    let rest = executable_from m xs at (suc i) n k (λ j lt. x j (omega arith))
    (λ j lt. b j (omega arith)) (omega arith) (omega arith) in
    let first : i < length xs = omega arith in
    ap (λ q. executable m q ((at + i) % 2 ^ 64)) count ∙ ap (executable m (suc (n + k))) place
    ∙ executable-step m (n + k) (at + i) (x i (omega arith))
    ∙ ap (λ c. c ∷ executable m (n + k) (next (at + i))) (b i (omega arith))
    ∙ ap (λ a. get_or xs i 0 ∷ executable m (n + k) a) after
    ∙ ap (λ (t : List ℕ). get_or xs i 0 ∷ t) rest
    ∙ ap (λ (ys : List ℕ). take (suc n) ys ++ executable m k ((at + (suc i + n)) % 2 ^ 64))
    (sym (drop-cons xs i 0 first)) ∙ ap (λ a. take (suc n) (drop i xs) ++ executable m k a) end

pub executable_stretch : (m : Memory) (at : ℕ) (protection : Protection) (bytes : List ℕ) (n k : ℕ)
    → IsRestOfPage m at protection bytes → n ≤ length bytes → protection.execute ≡ true
    → at < 2 ^ 64 → executable m (n + k) at ≡ take n bytes ++ executable m k ((at + n) % 2 ^ 64)
executable_stretch m at protection bytes n k s le x lt =
    let place : at ≡ (at + 0) % 2 ^ 64 = omega arith in
    let end : (at + (0 + n)) % 2 ^ 64 ≡ (at + n) % 2 ^ 64 = omega arith in
    ap (executable m (n + k)) place ∙ executable_from m bytes at 0 n k
    (λ j l. ap (λ (o : Protection). o.execute) (s.modes j (omega arith)) ∙ x)
    (λ j l. s.bytes_are j (omega arith)) (omega arith) (let i = s.inside in omega arith)
    ∙ ap (λ a. take n bytes ++ executable m k a) end

-- ---- what a load and a store answer there

pub positive : (w : Width) → 0 < bytes_of w
positive W8 = omega arith
positive W16 = omega arith
positive W32 = omega arith
positive W64 = omega arith

pub load_here : (m : Memory) (at : ℕ) (w : Width) (protection : Protection) (bytes : List ℕ)
    → IsRestOfPage m at protection bytes → is_readable protection.rights ≡ false
    → Err (refused false at) ≡ loaded m at w
load_here m at w protection bytes s e =
    sym (ap (λ o. access false o (number_at m.byte (bytes_of w) at))
    (first_refused-here (may_read m) (bytes_of w) at (positive w)
    (ap (λ (x : Protection). is_readable x.rights) s.mode_is ∙ e)))

pub load_all : (m : Memory) (at : ℕ) (w : Width) (protection : Protection) (bytes : List ℕ)
    → IsRestOfPage m at protection bytes → bytes_of w ≤ length bytes
    → is_readable protection.rights ≡ true → Ok (little_number (bytes_of w) bytes) ≡ loaded m at w
load_all m at w protection bytes s le e =
    ap (λ v. Ok v) (sym (number_of_stretch m at protection bytes (bytes_of w) s le))
    ∙ sym (ap (λ o. access false o (number_at m.byte (bytes_of w) at))
    (readable_stretch m at protection bytes (bytes_of w) s le e))

pub store_all : (m : Memory) (at : ℕ) (w : Width) (protection : Protection) (bytes : List ℕ)
    → IsRestOfPage m at protection bytes → bytes_of w ≤ length bytes
    → is_writable protection.rights ≡ true → Ok tt ≡ stored m at w
store_all m at w protection bytes s le e = sym
    (ap (λ o. access true o tt) (writable_stretch m at protection bytes (bytes_of w) s le e))

-- nothing is refused where a store answers that it may be made
pub may_store_is : (m : Memory) (at : ℕ) (w : Width) → Ok tt ≡ stored m at w
    → first_refused (may_write m) (bytes_of w) at ≡ None
may_store_is m at w e = go (first_refused (may_write m) (bytes_of w) at) e
  where
    go : (o : Option ℕ) → Ok tt ≡ access {A = Unit {0}} true o tt → o ≡ None
    go None e = refl
    go (Some a) e = absurd cc
