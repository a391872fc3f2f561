-- Operands that are written are read again.
use Rattle.std.proofs.Common.{◌≡◌, ◌≢◌, ℕ, zero, suc, ◌+◌, ◌-◌, ◌*◌, ◌/◌, ◌%◌, ◌^◌, ◌<◌, ◌≤◌, Bool, true, false, not, cond, eqb, List, ◌∷◌, ◌++◌, Option, Some, None, refl, ap, subst, ◌∙◌, arith, inl, inr, eq-eqb}
use Rattle.std.proofs.lemmas.Bool.{ne_eqb, cases_eq, and_parts, or_cases, ltb-true, leb-true, le-ltb, lt-ltb}
use Rattle.std.proofs.Math.Nat.{pow-suc}
use Rattle.std.specs.Prelude.{◌⊎◌, nat_lt, nat_le}
use Rattle.x64_encode.specs.Words.{Width, W8, W16, W32, W64, bytes_of, limit, half, low, Reg, Base, Index, RegisterOrMemory, Prefixes, Read, ◌>>=◌, byte, number, signed, extended, bit, register_of_low_bits, scale, index_of_sib, memory, displaced, sib_operand, memory_operand, place, little, is_signed, base_number, index_number, high_bits, mode, displacement, scale_number, sib, at_register, memory_bytes, place_bytes, is_index, is_place}
use Rattle.x64_instr.specs.declared.operand.Scale.{Scale}
use Rattle.x64_instr.specs.declared.operand.Scale.TheVariants.{One}
use Rattle.x64_instr.specs.declared.operand.Base.TheVariants as bases
use Rattle.x64_instr.specs.declared.operand.RegisterOrMemory.TheVariants as places
use Rattle.x64_instr.specs.Registers as regs
use Rattle.x64_encode.proofs.Lemmas.{register_number, number_small}

abbrev pub read_as : {A : Type 0} → A → List ℕ → Read A
read_as x rest = Some (x, rest)

-- ---- registers and numbers

-- the register of a field of three bits and the bit that REX adds to it
pub joined : (r : Reg) (high low : ℕ) → high ≡ regs.number r / 8 → low ≡ regs.number r % 8
    → regs.register (8 * high + low) ≡ r
joined r high low h l =
    let e : 8 * high + low ≡ regs.number r = omega arith in
    ap regs.register e ∙ register_number r

pub number_little : (n v : ℕ) (more : List ℕ) → v < 256 ^ n
    → number n (little n v ++ more) ≡ read_as v more
number_little zero v more h =
    let e : 0 ≡ v = omega arith in
    ap (λ k. read_as k more) e
number_little (suc n) v more h =
    let p : 256 ^ suc n ≡ 256 ^ n * 256 = pow-suc 256 n in
    let small : v / 256 < 256 ^ n = omega arith in
    let e : v % 256 + 256 * (v / 256) ≡ v = omega arith in
    ap (λ (o : Read ℕ). o >>= λ x. read_as (v % 256 + 256 * x.0) x.1)
    (number_little n (v / 256) more small) ∙ ap (λ k. read_as k more) e

-- what the test says
signed_cases : (from to : Width) (v : ℕ) → is_signed from to v ≡ true
    → (v < half from) ⊎ ((limit to - half from ≤ v) × (v < limit to))
signed_cases from to v t = elim (or_cases (nat_lt v (half from)) _ t) [
  | inl a ↦ inl (ltb-true v (half from) a)
  | inr b ↦ let p = and_parts (nat_le (limit to - half from) v) (nat_lt v (limit to)) b in
      inr (leb-true (limit to - half from) v p.0, ltb-true v (limit to) p.1)
]

extended_small : (f t h v m : ℕ) → m ≡ v → v < h → cond (nat_lt m h) m (m + (t - f)) ≡ v
extended_small f t h v m e lt = rw (e, lt-ltb v h lt) refl

extended_large : (f t h v m : ℕ) → m + (t - f) ≡ v → h ≤ m → cond (nat_lt m h) m (m + (t - f)) ≡ v
extended_large f t h v m e le = rw (le-ltb m h le) e

extended_low : (from to : Width) (v : ℕ) → limit from ≤ limit to
    → (v < half from) ⊎ ((limit to - half from ≤ v) × (v < limit to))
    → extended from to (low from v) ≡ v
extended_low W8 W8 v le c = elim c [
  | inl a ↦ extended_small (limit W8) (limit W8) (half W8) v (v % limit W8) (omega arith) a
  | inr b ↦ let lo = b.0 in let hi = b.1 in
      extended_large (limit W8) (limit W8) (half W8) v (v % limit W8) (omega arith) (omega arith)
]
extended_low W16 W8 v le c = absurd (omega arith)
extended_low W32 W8 v le c = absurd (omega arith)
extended_low W32 W16 v le c = absurd (omega arith)
extended_low W64 W8 v le c = absurd (omega arith)
extended_low W64 W16 v le c = absurd (omega arith)
extended_low W64 W32 v le c = absurd (omega arith)
extended_low from to v le c = elim c [
  | inl a ↦ extended_small (limit from) (limit to) (half from) v (v % limit from) (omega arith) a
  | inr b ↦ let lo = b.0 in let hi = b.1 in
      extended_large (limit from) (limit to) (half from) v (v % limit from) (omega arith)
      (omega arith)
]

low_small : (w : Width) (v : ℕ) → low w v < 256 ^ bytes_of w
low_small W8 v = omega arith
low_small w v = omega arith

pub signed_little : (from to : Width) (v : ℕ) (more : List ℕ) → limit from ≤ limit to
    → is_signed from to v ≡ true → signed from to (little (bytes_of from) (low from v) ++ more)
    ≡ read_as v more
signed_little from to v more le t =
    ap (λ (o : Read ℕ). o >>= λ x. read_as (extended from to x.0) x.1)
    (number_little (bytes_of from) (low from v) more (low_small from v))
    ∙ ap (λ k. read_as k more) (extended_low from to v le (signed_cases from to v t))

-- ---- ModRM, SIB and displacement

-- the bits B and X that REX has for a place
pub record High (p : Prefixes) (h : ℕ) : Type 0 where
  pub b : bit 0 p.rex ≡ h % 2
  pub x : bit 1 p.rex ≡ h / 2

-- a place that is read, with the reg field beside it
pub record IsRead (p : Prefixes) (r : ℕ) (at : RegisterOrMemory) (bytes more : List ℕ) : Type 0
  where
    pub modrm : ℕ
    pub rest : List ℕ
    pub whole : bytes ≡ modrm ∷ rest
    pub opcode_extension : modrm / 8 % 8 ≡ r
    pub gives : place p modrm rest ≡ Some (at, more)

place_at : (p : Prefixes) (m mode low : ℕ) (bytes : List ℕ) → m / 64 ≡ mode → m % 8 ≡ low → mode < 3
    → place p m bytes ≡ memory_operand p mode low bytes
unfolding place
place_at p m mode low bytes em el lt =
    let no : eqb (m / 64) 3 ≡ false = ne_eqb _ _ (λ h. absurd (omega arith)) in
    ap (λ c. cond c (read_as (places.Register (register_of_low_bits p m)) bytes)
    (memory_operand p (m / 64) (m % 8) bytes)) no
    ∙ ap (λ k. memory_operand p k (m % 8) bytes) em
    ∙ ap (λ k. memory_operand p mode k bytes) el

scale-number : (s : Scale) → scale (scale_number s) ≡ s
scale-number One = refl
scale-number s = refl

scale_small : (s : Scale) → scale_number s < 4
scale_small One = omega arith
scale_small s = omega arith

sib_low : (i : Option Index) (b : ℕ) → b < 8 → sib i b % 8 ≡ b
sib_low None b lt = omega arith
sib_low (Some i) b lt = omega arith

-- an index that can be spelled: not RSP
IsIndex : Option Index → Type 0
IsIndex None = Unit {0}
IsIndex (Some i) = regs.number i.register ≢ 4

indexed_sib : (p : Prefixes) (i : Option Index) (b : ℕ) → b < 8 → bit 1 p.rex ≡ index_number i / 8
    → IsIndex i → index_of_sib p (sib i b) ≡ i
unfolding IsIndex
indexed_sib p None b lt h fine =
    let e : 8 * bit 1 p.rex + (8 * 4 + b) / 8 % 8 ≡ 4 = omega arith in
    let none : Option Index = None in
    ap (λ c. cond c none (Some (record {
      register = regs.register
          (8 * bit 1 p.rex + (8 * 4 + b) / 8 % 8);
      scale = scale ((8 * 4 + b) / 64);
    }))) (eq-eqb _ _ e)
indexed_sib p (Some i) b lt h fine =
    let n = number_small i.register in
    let s = scale_small i.scale in
    let field : sib (Some i) b / 8 % 8 ≡ regs.number i.register % 8 = omega arith in
    let top : sib (Some i) b / 64 ≡ scale_number i.scale = omega arith in
    let whole : 8 * bit 1 p.rex + sib (Some i) b / 8 % 8 ≡ regs.number i.register = omega arith in
    let none : Option Index = None in
    let index = λ (k t : ℕ). let x : Option Index = Some
    (record { register = regs.register k; scale = scale t }) in x in
    ap (λ k. cond (eqb k 4) none (index k (sib (Some i) b / 64))) whole
    ∙ ap (λ c. cond c none (index (regs.number i.register) (sib (Some i) b / 64))) (ne_eqb _ _ fine)
    ∙ ap (λ t. index (regs.number i.register) t) top
    ∙ ap (λ (r : Reg). let x : Option Index = Some
    (record { register = r; scale = scale (scale_number i.scale) }) in x)
    (register_number i.register)
    ∙ ap (λ (t : Scale). let x : Option Index = Some
    (record { register = i.register; scale = t }) in x) (scale-number i.scale)

-- a displacement of a byte where t holds
abbrev bytes_by : Bool → ℕ → List ℕ
bytes_by t d = cond t (little 1 (low W8 d)) (little 4 (low W32 d))

displaced_by : (t : Bool) (d : ℕ) (more : List ℕ) → (t ≡ true → is_signed W8 W64 d ≡ true)
    → is_signed W32 W64 d ≡ true → displaced (cond t 1 2) (bytes_by t d ++ more) ≡ read_as d more
displaced_by true d more a b = signed_little W8 W64 d more (omega arith) (a refl)
displaced_by false d more a b = signed_little W32 W64 d more (omega arith) b

-- SIB with a base
sib_by : (t : Bool) (p : Prefixes) (s d : ℕ) (more : List ℕ)
    → (t ≡ true → is_signed W8 W64 d ≡ true) → is_signed W32 W64 d ≡ true
    → sib_operand p (cond t 1 2) s (bytes_by t d ++ more)
    ≡ read_as (memory (bases.Register (register_of_low_bits p s)) (index_of_sib p s) d) more
sib_by true p s d more a b = ap (λ (o : Read ℕ). o
    >>= λ v. read_as (memory (bases.Register (register_of_low_bits p s)) (index_of_sib p s) v.0)
    v.1) (displaced_by true d more a b)
sib_by false p s d more a b = ap (λ (o : Read ℕ). o
    >>= λ v. read_as (memory (bases.Register (register_of_low_bits p s)) (index_of_sib p s) v.0)
    v.1) (displaced_by false d more a b)

-- a base without SIB
low_by : (t : Bool) (p : Prefixes) (k d : ℕ) (more : List ℕ) → k ≢ 4
    → (t ≡ true → is_signed W8 W64 d ≡ true) → is_signed W32 W64 d ≡ true
    → memory_operand p (cond t 1 2) k (bytes_by t d ++ more)
    ≡ read_as (memory (bases.Register (register_of_low_bits p k)) None d) more
low_by true p k d more n a b =
    ap (λ c. cond c (byte (bytes_by true d ++ more) >>= λ s. sib_operand p 1 s.0 s.1)
    (displaced 1 (bytes_by true d ++ more) >>= λ v. read_as
    (memory (bases.Register (register_of_low_bits p k)) None v.0) v.1)) (ne_eqb _ _ n)
    ∙ ap (λ (o : Read ℕ). o >>= λ v. read_as (memory (bases.Register (register_of_low_bits p k))
    None v.0) v.1) (displaced_by true d more a b)
low_by false p k d more n a b =
    ap (λ c. cond c (byte (bytes_by false d ++ more) >>= λ s. sib_operand p 2 s.0 s.1)
    (displaced 2 (bytes_by false d ++ more)
    >>= λ v. read_as (memory (bases.Register (register_of_low_bits p k)) None v.0) v.1))
    (ne_eqb _ _ n)
    ∙ ap (λ (o : Read ℕ). o >>= λ v. read_as (memory (bases.Register (register_of_low_bits p k))
    None v.0) v.1) (displaced_by false d more a b)

mode_small : (t : Bool) → cond t 1 2 < 3
mode_small true = omega arith
mode_small false = omega arith

-- a base with SIB, with an index or without
with_sib : (p : Prefixes) (r : ℕ) (b : Reg) (i : Option Index) (d : ℕ) (more : List ℕ) → r < 8
    → IsIndex i → is_signed W32 W64 d ≡ true → bit 1 p.rex ≡ index_number i / 8
    → bit 0 p.rex ≡ regs.number b / 8
    → IsRead p r (memory (bases.Register b) i d)
    ((64 * mode d + 8 * r + 4) ∷ sib i (regs.number b % 8) ∷ (displacement d ++ more)) more
with_sib p r b i d more lr fine fits hx hb =
    let t = is_signed W8 W64 d in
    let lm = mode_small t in
    let s = sib i (regs.number b % 8) in
    let m = 64 * mode d + 8 * r + 4 in
    let top : m / 64 ≡ mode d = omega arith in
    let bottom : m % 8 ≡ 4 = omega arith in
    record {
      modrm = m;
      rest = s ∷ (displacement d ++ more);
      whole = refl;
      opcode_extension = omega arith;
      gives =
          place_at p m (mode d) 4 (s ∷ (displacement d ++ more)) top bottom lm
          ∙ sib_by t p s d more (λ e. e) fits
          ∙ ap (λ (x : Reg). read_as (memory (bases.Register x) (index_of_sib p s) d) more)
          (joined b (bit 0 p.rex) (s % 8) hb (sib_low i (regs.number b % 8) (omega arith)))
          ∙ ap (λ (x : Option Index). read_as (memory (bases.Register b) x d) more)
          (indexed_sib p i (regs.number b % 8) (omega arith) hx fine);
    }

without_sib : (p : Prefixes) (r : ℕ) (b : Reg) (d : ℕ) (more : List ℕ) → r < 8
    → regs.number b % 8 ≢ 4 → is_signed W32 W64 d ≡ true → bit 0 p.rex ≡ regs.number b / 8
    → IsRead p r (memory (bases.Register b) None d)
    ((64 * mode d + 8 * r + regs.number b % 8) ∷ (displacement d ++ more)) more
without_sib p r b d more lr n fits hb =
    let t = is_signed W8 W64 d in
    let lm = mode_small t in
    let k = regs.number b % 8 in
    let m = 64 * mode d + 8 * r + k in
    let top : m / 64 ≡ mode d = omega arith in
    let bottom : m % 8 ≡ k = omega arith in
    let same : k % 8 ≡ k = omega arith in
    record {
      modrm = m;
      rest = displacement d ++ more;
      whole = refl;
      opcode_extension = omega arith;
      gives =
          place_at p m (mode d) k (displacement d ++ more) top bottom lm
          ∙ low_by t p k d more n (λ e. e) fits
          ∙ ap (λ (x : Reg). read_as (memory (bases.Register x) None d) more)
          (joined b (bit 0 p.rex) (k % 8) hb same);
    }

-- no base
no_base : (p : Prefixes) (r : ℕ) (i : Option Index) (d : ℕ) (more : List ℕ) → r < 8 → IsIndex i
    → is_signed W32 W64 d ≡ true → bit 1 p.rex ≡ index_number i / 8
    → IsRead p r (memory bases.Nothing i d) ((8 * r + 4) ∷ sib i 5 ∷ (little 4 (low W32 d) ++ more))
    more
no_base p r i d more lr fine fits hx =
    let s = sib i 5 in
    let m = 8 * r + 4 in
    let bytes = little 4 (low W32 d) ++ more in
    let top : m / 64 ≡ 0 = omega arith in
    let bottom : m % 8 ≡ 4 = omega arith in
    record {
      modrm = m;
      rest = s ∷ bytes;
      whole = refl;
      opcode_extension = omega arith;
      gives =
          place_at p m 0 4 (s ∷ bytes) top bottom (omega arith)
          ∙ ap (λ c. cond c (signed W32 W64 bytes
          >>= λ v. read_as (memory bases.Nothing (index_of_sib p s) v.0) v.1)
          (displaced 0 bytes >>= λ v. read_as
          (memory (bases.Register (register_of_low_bits p s)) (index_of_sib p s) v.0) v.1))
          (eq-eqb (s % 8) 5 (sib_low i 5 (omega arith)))
          ∙ ap (λ (o : Read ℕ). o >>= λ v. read_as (memory bases.Nothing (index_of_sib p s) v.0)
          v.1) (signed_little W32 W64 d more (omega arith) fits)
          ∙ ap (λ (x : Option Index). read_as (memory bases.Nothing x d) more)
          (indexed_sib p i 5 (omega arith) hx fine);
    }

relative : (p : Prefixes) (r d : ℕ) (more : List ℕ) → r < 8 → is_signed W32 W64 d ≡ true
    → IsRead p r (memory bases.Rip None d) ((8 * r + 5) ∷ (little 4 (low W32 d) ++ more)) more
relative p r d more lr fits =
    let m = 8 * r + 5 in
    let bytes = little 4 (low W32 d) ++ more in
    let top : m / 64 ≡ 0 = omega arith in
    let bottom : m % 8 ≡ 5 = omega arith in
    record {
      modrm = m;
      rest = bytes;
      whole = refl;
      opcode_extension = omega arith;
      gives = place_at p m 0 5 bytes top bottom (omega arith)
          ∙ ap (λ (o : Read ℕ). o >>= λ v. read_as (memory bases.Rip None v.0) v.1)
          (signed_little W32 W64 d more (omega arith) fits);
    }

of_register : (p : Prefixes) (r : ℕ) (b : Reg) (more : List ℕ) → r < 8
    → bit 0 p.rex ≡ regs.number b / 8 → IsRead p r (places.Register b)
    ((64 * 3 + 8 * r + regs.number b % 8) ∷ more) more
unfolding place
of_register p r b more lr hb =
    let m = 64 * 3 + 8 * r + regs.number b % 8 in
    let top : m / 64 ≡ 3 = omega arith in
    let bottom : m % 8 ≡ regs.number b % 8 = omega arith in
    record {
      modrm = m;
      rest = more;
      whole = refl;
      opcode_extension = omega arith;
      gives = ap (λ c. cond c (read_as (places.Register (register_of_low_bits p m)) more)
          (memory_operand p (m / 64) (m % 8) more)) (eq-eqb _ _ top)
          ∙ ap (λ (x : Reg). read_as (places.Register x) more)
          (joined b (bit 0 p.rex) (m % 8) hb bottom);
    }

along : {p : Prefixes} {r : ℕ} {at : RegisterOrMemory} {more : List ℕ} (bytes others : List ℕ)
    → bytes ≡ others → IsRead p r at others more → IsRead p r at bytes more
along bytes others e i = record {
  modrm = i.modrm;
  rest = i.rest;
  whole = e ∙ i.whole;
  opcode_extension = i.opcode_extension;
  gives = i.gives;
}

at_base : (p : Prefixes) (r : ℕ) (b : Reg) (i : Option Index) (d : ℕ) (more : List ℕ) → r < 8
    → IsIndex i → is_signed W32 W64 d ≡ true → bit 1 p.rex ≡ index_number i / 8
    → bit 0 p.rex ≡ regs.number b / 8
    → IsRead p r (memory (bases.Register b) i d) (at_register r b i d ++ more) more
at_base p r b None d more lr fine fits hx hb =
    let long = (64 * mode d + 8 * r + 4) ∷ sib None 4 ∷ displacement d in
    let short = (64 * mode d + 8 * r + regs.number b % 8) ∷ displacement d in
    elim (cases_eq (regs.number b % 8) 4) [
      | inl e ↦
          let four : IsRead p r (memory (bases.Register b) None d) (long ++ more) more = subst
          (λ (k : ℕ). IsRead p r (memory (bases.Register b) None d)
          (((64 * mode d + 8 * r + 4) ∷ sib None k ∷ displacement d) ++ more) more) e
          (with_sib p r b None d more lr fine fits hx hb) in
          along _ (long ++ more) (ap (λ c. cond c long short ++ more) (eq-eqb _ _ e)) four
      | inr n ↦ along _ (short ++ more) (ap (λ c. cond c long short ++ more) (ne_eqb _ _ n))
          (without_sib p r b d more lr n fits hb)
    ]
at_base p r b (Some i) d more lr fine fits hx hb = with_sib p r b (Some i) d more lr fine fits hx hb

not_four : (n : ℕ) → not (eqb n 4) ≡ true → n ≢ 4
not_four n h e = let t : eqb n 4 ≡ true = eq-eqb _ _ e in absurd (cc)

index_small : (i : Option Index) → index_number i < 16
index_small None = omega arith
index_small (Some i) = number_small i.register

read_memory : (p : Prefixes) (r : ℕ) (b : Base) (i : Option Index) (d : ℕ) (more : List ℕ) → r < 8
    → is_index b i ≡ true → is_signed W32 W64 d ≡ true
    → High p (2 * (index_number i / 8) + base_number b / 8)
    → IsRead p r (memory b i d) (memory_bytes r b i d ++ more) more
unfolding IsIndex
read_memory p r bases.Nothing None d more lr ok fits h = no_base p r None d more lr tt fits
    (let x = h.x in omega arith)
read_memory p r bases.Nothing (Some i) d more lr ok fits h = let n = number_small i.register in
    no_base p r (Some i) d more lr (not_four (regs.number i.register) ok) fits
    (let x = h.x in omega arith)
read_memory p r bases.Rip None d more lr ok fits h = relative p r d more lr fits
read_memory p r bases.Rip (Some i) d more lr ok fits h = absurd (cc)
read_memory p r (bases.Register b) None d more lr ok fits h = let n = number_small b in
    at_base p r b None d more lr tt fits (let x = h.x in omega arith) (let y = h.b in omega arith)
read_memory p r (bases.Register b) (Some i) d more lr ok fits h =
    let n = number_small b in
    let m = number_small i.register in
    at_base p r b (Some i) d more lr (not_four (regs.number i.register) ok) fits
    (let x = h.x in omega arith) (let y = h.b in omega arith)

pub read_place : (p : Prefixes) (r : ℕ) (at : RegisterOrMemory) (more : List ℕ) → r < 8
    → is_place at ≡ true → High p (high_bits at) → IsRead p r at (place_bytes r at ++ more) more
read_place p r (places.Register b) more lr ok h = let n = number_small b in
    of_register p r b more lr (let y = h.b in omega arith)
read_place p r (places.Memory m) more lr ok h =
    let parts = and_parts (is_index m.base m.index) (is_signed W32 W64 m.displacement) ok in
    read_memory p r m.base m.index m.displacement more lr parts.0 parts.1 h

pub high_small : (at : RegisterOrMemory) → high_bits at < 4
high_small (places.Register b) = let n = number_small b in omega arith
high_small (places.Memory m) = let i = index_small m.index in let b = base_small m.base in
    omega arith
  where
    base_small : (b : Base) → base_number b < 16
    base_small (bases.Register r) = number_small r
    base_small bases.Nothing = omega arith
    base_small bases.Rip = omega arith
