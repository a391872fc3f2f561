-- The unwind info of a frame is written as octets.
use Rattle.std.proofs.Common.{◌≡◌, ℕ, ◌-◌, ◌/◌, ◌%◌, ◌<◌, ◌≤◌, Bool, true, false, cond, List, [], ◌∷◌, ◌++◌, length, replicate, refl, arith}
use Rattle.std.specs.Prelude.{◌&&◌, ◌==◌, nat_lt, nat_le}
use Rattle.std.specs.List.{AllByRecursion}
use Rattle.std.proofs.lemmas.Bool.{leb-true, and_parts}
use Rattle.seh_num.specs.Widths.{if_set}
use Rattle.pe_image.specs.Numbers.{u16, u32}
use Rattle.eh_write.specs.Written.{slot, is_short, is_small, operation_bytes, codes_bytes, header, padded, trailer_bytes, trailer_flags, unwind_bytes}
use Rattle.eh_write.specs.declared.unwind_info.Trailer.{Trailer}
use Rattle.eh_write.specs.declared.unwind_info.Trailer.TheVariants.{Nothing, Handler, Parent}
use Rattle.frame_layout.specs.declared.frame.FrameLayout.{FrameLayout}
use Rattle.frame_layout.specs.Infos.{info_of, chained_info, codes_of}
use Rattle.eh_tables.specs.declared.range.RuntimeFunction.{RuntimeFunction}
use Rattle.frame_layout.proofs.Planned.{frame_small}
use Rattle.frame_layout.proofs.Steps.{HasRegisters, IsShort}
use Rattle.frame_layout.proofs.Sizes.{prologue_few}
use Rattle.frame_layout.proofs.Codes.{codes_few, codes_short, codes_offsets}
use Rattle.eh_tables.specs.declared.code.UnwindCode.{UnwindCode}
use Rattle.eh_tables.specs.declared.code.UnwindOperation.{UnwindOperation}
use Rattle.eh_tables.specs.declared.code.UnwindOperation.TheVariants.{Push, Allocate, SetFrame, Save, SaveVector, MachineFrame}
use Rattle.image_tables.specs.OctetLaws.{AreOctets}
use Rattle.image_tables.proofs.Octets.{joined, repeated, two_bytes, four_bytes}
use Rattle.image_tables.proofs.TableOctets.{trailer_octets}

-- ---- the code of the allocation

few_units : (n : ℕ) → is_small n ≡ true → n / 8 - 1 < 16
few_units n h =
    let p = and_parts ((n % 8 == 0) && nat_lt 0 n) (nat_le n 128) h in
    let le = leb-true n 128 p.1 in
    omega arith

abbrev allocation_by : ℕ → ℕ → Bool → Bool → List ℕ
allocation_by offset n small short = cond small (slot offset 2 (n / 8 - 1))
    (cond short (slot offset 1 0 ++ u16 (n / 8)) (slot offset 1 1 ++ u32 n))

pieces : (offset n : ℕ) (small short : Bool) → offset < 256 → (small ≡ true → n / 8 - 1 < 16)
    → AreOctets (allocation_by offset n small short)
unfolding u16 u32
pieces offset n true short lt units = let u = units refl in (lt, (omega arith, tt))
pieces offset n false true lt units = (lt, (omega arith, two_bytes (n / 8)))
pieces offset n false false lt units = (lt, (omega arith, four_bytes n))

allocation_octets : (offset n : ℕ) → offset < 256
    → AreOctets (allocation_by offset n (is_small n) (is_short 8 n))
allocation_octets offset n lt = pieces offset n (is_small n) (is_short 8 n) lt (few_units n)

-- ---- the other codes

saving_octets : (offset r n : ℕ) (short : Bool) → offset < 256 → r < 16
    → AreOctets (cond short (slot offset 4 r ++ u16 (n / 8)) (slot offset 5 r ++ u32 n))
unfolding u16 u32
saving_octets offset r n true lt few = (lt, (omega arith, two_bytes (n / 8)))
saving_octets offset r n false lt few = (lt, (omega arith, four_bytes n))

code_octets : (framed : Bool) (offset : ℕ) (x : UnwindOperation) → offset < 256 → IsShort framed x
    → AreOctets (operation_bytes offset x)
code_octets framed offset (Push r) lt h = (lt, (omega arith, tt))
code_octets framed offset (Allocate n) lt h = allocation_octets offset n lt
code_octets framed offset SetFrame lt h = (lt, (omega arith, tt))
code_octets framed offset (Save r n) lt h = saving_octets offset r n (is_short 8 n) lt h
code_octets framed offset (SaveVector r n) lt h = absurd h
code_octets framed offset (MachineFrame e) lt h = absurd h

codes_octets : (framed : Bool) (cs : List UnwindCode)
    → AllByRecursion (λ (c : UnwindCode). IsShort framed c.operation) cs
    → AllByRecursion (λ (c : UnwindCode). c.offset ≤ 57) cs → AreOctets (codes_bytes cs)
codes_octets framed [] short low = tt
codes_octets framed (c ∷ cs) short low =
    let l = low.0 in
    joined (operation_bytes c.offset c.operation) (codes_bytes cs)
    (code_octets framed c.offset c.operation (omega arith) short.0)
    (codes_octets framed cs short.1 low.1)

-- ---- the info

flag_small : (b : Bool) (n : ℕ) → if_set b n ≤ n
flag_small true n = omega arith
flag_small false n = omega arith

flags_small : (t : Trailer) → trailer_flags t < 8
flags_small Nothing = omega arith
flags_small (Handler s u rva) = let a = flag_small s 1 in let b = flag_small u 2 in omega arith
flags_small (Parent r) = omega arith

pub info_octets : (f : FrameLayout) (t : Trailer) → HasRegisters f
    → AreOctets (unwind_bytes (info_of f t))
unfolding unwind_bytes
info_octets f t h =
    let slots = codes_bytes (codes_of f) in
    let prologue = (prologue_few f h).1 in
    let few = codes_few f h in
    let flags = flags_small t in
    let frame = frame_small f.framed in
    joined (header (info_of f t) (length slots) ++ padded slots) (trailer_bytes t)
    (joined (header (info_of f t) (length slots)) (padded slots)
    (omega arith, (omega arith, (omega arith, (omega arith, tt))))
    (joined slots (replicate (length slots % 4) 0)
    (codes_octets f.framed (codes_of f) (codes_short f h) (codes_offsets f h))
    (repeated (length slots % 4))))
    (trailer_octets t)

-- that of a cold part, with its function's entry
pub chained_octets : (framed : Bool) (parent : RuntimeFunction)
    → AreOctets (unwind_bytes (chained_info framed parent))
unfolding unwind_bytes
chained_octets framed parent =
    let frame = frame_small framed in
    joined (header (chained_info framed parent) 0 ++ padded []) (trailer_bytes (Parent parent))
    (omega arith, (omega arith, (omega arith, (omega arith, tt))))
    (trailer_octets (Parent parent))
