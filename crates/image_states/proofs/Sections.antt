-- Which section is at an address, and what sections are like.
use Rattle.std.proofs.Common.{◌≡◌, ℕ, zero, suc, ◌+◌, ◌-◌, ◌/◌, ◌%◌, ◌^◌, ◌<◌, ◌≤◌, Bool, true, false, cond, leb, ltb, List, [], ◌∷◌, ◌++◌, get_or, replicate, Option, Some, None, refl, ap, ◌∙◌, arith, inl, inr, ◌⊎◌}
use Rattle.std.specs.List.{AllByRecursion}
use Rattle.std.proofs.lemmas.Bool.{and_from, and_left, and_right, lt-ltb, le-ltb, le-leb, lt-leb, cases_lt}
use Rattle.image_states.specs.Words.{is_writable, first_byte, DATA_STACK_START, FIRST_DATA_STACK, Section, Import, Service, service_named, section_of, byte_in, with_slots, with_number, is_among, pages, covers, or_else, with_address}
use Rattle.flat_memory.specs.declared.protection.Protection.{Protection}
use Rattle.flat_memory.specs.Memory.{distance}
use Rattle.flat_memory.proofs.Stores.{beyond, outside}
use Rattle.host_layout.specs.Services.{address_of}

-- ---- which section

pub covered : (base a : ℕ) (s : Section) → base + s.address ≤ a
    → a < base + s.address + pages s.size → covers base a s ≡ true
covered base a s le lt = and_from (leb (base + s.address) a)
    (ltb a (base + s.address + pages s.size)) (le-leb (base + s.address) a le)
    (lt-ltb a (base + s.address + pages s.size) lt)

pub below : (base a : ℕ) (s : Section) → a < base + s.address → covers base a s ≡ false
below base a s lt = and_left (leb (base + s.address) a) (ltb a (base + s.address + pages s.size))
    (lt-leb (base + s.address) a lt)

pub above : (base a : ℕ) (s : Section) → base + s.address + pages s.size ≤ a
    → covers base a s ≡ false
above base a s le = and_right (leb (base + s.address) a) (ltb a (base + s.address + pages s.size))
    (le-ltb a (base + s.address + pages s.size) le)

pub here : (base a : ℕ) (s : Section) (ss : List Section) → covers base a s ≡ true
    → section_of base a (s ∷ ss) ≡ Some s
here base a s ss e = ap (or_else (section_of base a ss) s) e

pub past : (base a : ℕ) (s : Section) (ss : List Section) → covers base a s ≡ false
    → section_of base a (s ∷ ss) ≡ section_of base a ss
past base a s ss e = ap (or_else (section_of base a ss) s) e

-- ---- what holds of all sections

or_else_has : (P : Option Section → Type 0) (o : Option Section) (s : Section) (b : Bool) → P o
    → P (Some s) → P (or_else o s b)
or_else_has P o s true h k = k
or_else_has P o s false h k = h

pub of_section : (P : Option Section → Type 0) (base a : ℕ) (ss : List Section) → P None
    → AllByRecursion (λ (s : Section). P (Some s)) ss → P (section_of base a ss)
of_section P base a [] none all = none
of_section P base a (s ∷ ss) none all = or_else_has P (section_of base a ss) s (covers base a s)
    (of_section P base a ss none all.1) all.0

-- ---- bytes

abbrev pub AllBytes : List ℕ → Type 0
AllBytes bytes = AllByRecursion (λ b. b < 256) bytes

pub bytes_front : (a b : List ℕ) → AllBytes (a ++ b) → AllBytes a
bytes_front [] b h = tt
bytes_front (x ∷ a) b h = (h.0, bytes_front a b h.1)

pub bytes_back : (a b : List ℕ) → AllBytes (a ++ b) → AllBytes b
bytes_back [] b h = h
bytes_back (x ∷ a) b h = bytes_back a b h.1

byte_small : (xs : List ℕ) (i : ℕ) → AllBytes xs → get_or xs i 0 < 256
byte_small [] zero h = omega arith
byte_small [] (suc i) h = omega arith
byte_small (x ∷ xs) zero h = h.0
byte_small (x ∷ xs) (suc i) h = byte_small xs i h.1

number_small : (byte : ℕ → ℕ) (n at v : ℕ) → ((a : ℕ) → byte a < 256) → (a : ℕ)
    → with_number byte n at v a < 256
unfolding with_number
number_small byte n at v h a = go (is_among n at a)
  where
    go : (b : Bool) → (cond b (v / 256 ^ distance at a % 256) (byte a)) < 256
    go true = omega arith
    go false = h a

-- ---- what a run begins with where no section is

first_small : (a : ℕ) → first_byte a < 256
first_small a = number_small (λ b. 0) 8 DATA_STACK_START FIRST_DATA_STACK (λ b. omega arith) a

-- zeros beside the data stack's pointer
pub first_byte-beside : (a : ℕ) → (a < DATA_STACK_START) ⊎ (DATA_STACK_START + 8 ≤ a)
    → first_byte a ≡ 0
first_byte-beside a h = elim (cases_lt a (2 ^ 64)) [
  | inl lt ↦ beyond (λ b. 0) 8 DATA_STACK_START FIRST_DATA_STACK a lt (far h lt)
  | inr le ↦ outside (λ b. 0) 8 DATA_STACK_START FIRST_DATA_STACK a le
]
  where
    far : (a < DATA_STACK_START) ⊎ (DATA_STACK_START + 8 ≤ a) → a < 2 ^ 64
        → 8 ≤ distance DATA_STACK_START a
    far (inl x) lt = omega arith
    far (inr x) lt = omega arith

pub stored_small : (base a : ℕ) (ss : List Section)
    → AllByRecursion (λ (s : Section). AllBytes s.raw) ss
    → byte_in base (section_of base a ss) a < 256
stored_small base a ss all = of_section (λ (o : Option Section). byte_in base o a < 256) base a ss
    (first_small a) (each ss all)
  where
    each : (qs : List Section) → AllByRecursion (λ (s : Section). AllBytes s.raw) qs
        → AllByRecursion (λ (s : Section). byte_in base (Some s) a < 256) qs
    each [] h = tt
    each (q ∷ qs) h = (byte_small q.raw (a - (base + q.address)) h.0, each qs h.1)

address_small : (byte : ℕ → ℕ) (at : ℕ) (o : Option Service) → ((a : ℕ) → byte a < 256) → (a : ℕ)
    → with_address byte at o a < 256
address_small byte at None h a = h a
address_small byte at (Some s) h a = number_small byte 8 at (address_of s) h a

pub slots_small : (base : ℕ) (byte : ℕ → ℕ) (is : List Import) → ((a : ℕ) → byte a < 256) → (a : ℕ)
    → with_slots base byte is a < 256
slots_small base byte [] h a = h a
slots_small base byte (i ∷ is) h a = slots_small base
    (with_address byte (base + i.slot) (service_named i.name)) is
    (address_small byte (base + i.slot) (service_named i.name) h) a

-- ---- addresses past the last one

address_past : (byte : ℕ → ℕ) (at a : ℕ) (o : Option Service) → 2 ^ 64 ≤ a
    → with_address byte at o a ≡ byte a
address_past byte at a None le = refl
address_past byte at a (Some s) le = outside byte 8 at (address_of s) a le

pub slots_past : (base : ℕ) (byte : ℕ → ℕ) (a : ℕ) (is : List Import) → 2 ^ 64 ≤ a
    → with_slots base byte is a ≡ byte a
slots_past base byte a [] le = refl
slots_past base byte a (i ∷ is) le = slots_past base
    (with_address byte (base + i.slot) (service_named i.name)) a is le
    ∙ address_past byte (base + i.slot) a (service_named i.name) le

-- ---- zeros after a list

pub get_zeros : (xs : List ℕ) (n i : ℕ) → get_or (xs ++ replicate n 0) i 0 ≡ get_or xs i 0
get_zeros [] zero i = refl
get_zeros [] (suc n) zero = refl
get_zeros [] (suc n) (suc i) = get_zeros [] n i ∙ get_nothing i
  where
    get_nothing : (j : ℕ) → ◌≡◌ {A = ℕ} (get_or [] j 0) (get_or [] (suc j) 0)
    get_nothing zero = refl
    get_nothing (suc j) = refl
get_zeros (x ∷ xs) n zero = refl
get_zeros (x ∷ xs) n (suc i) = get_zeros xs n i

-- ---- what may be done

abbrev pub IsApart : Protection → Type 0
IsApart m = is_writable m.rights ≡ true → m.execute ≡ false
