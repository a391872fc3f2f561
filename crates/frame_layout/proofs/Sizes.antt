-- How many bytes prologues and epilogues take.
use Rattle.std.proofs.Common.{◌≡◌, ℕ, zero, suc, ◌+◌, ◌-◌, ◌*◌, ◌%◌, ◌^◌, ◌<◌, ◌≤◌, Bool, true, false, not, cond, ltb, leb, List, [], ◌∷◌, ◌++◌, length, get_or, drop, drop-cons, refl, sym, ap, ◌∙◌, arith, length-append}
use Rattle.std.specs.Prelude.{◌&&◌, ◌||◌, if◌then◌else◌}
use Rattle.std.specs.List.{flat_map, AllByRecursion}
use Rattle.std.proofs.lemmas.Bool.{lt-leb, lt-ltb, le-ltb, le-leb, ne_eqb}
use Rattle.std.proofs.lemmas.Grind.{flat_map-append}
use Rattle.seh_num.specs.Widths.{low}
use Rattle.seh_num.specs.declared.width.Width.TheVariants.{W8, W32, W64}
use Rattle.x64_instr.specs.declared.instruction.Operation.TheVariants.{Add}
use Rattle.x64_instr.specs.declared.instruction.Instr.{Instr}
use Rattle.x64_instr.specs.declared.instruction.Instr.TheVariants as instrs
use Rattle.x64_instr.specs.declared.register.Reg.TheVariants.{Rsp}
use Rattle.x64_instr.specs.declared.operand.RegisterOrMemory.TheVariants as places
use Rattle.x64_instr.specs.declared.operand.Operand.TheVariants as operands
use Rattle.x64_instr.specs.Registers.{register, number}
use Rattle.x64_encode.specs.declared.writing.Opcode.TheVariants as opcodes
use Rattle.x64_encode.specs.Chosen.{chosen, is_signed, little, prefixes, displacement, opcode_bytes, place_bytes, modrm_bits, modrm, opcode_register}
use Rattle.eh_tables.specs.declared.code.UnwindOperation.{UnwindOperation}
use Rattle.eh_tables.specs.declared.code.UnwindOperation.TheVariants.{Push, Allocate, SetFrame, Save, SaveVector, MachineFrame}
use Rattle.frame_rules.specs.Prologue.{bytes}
use Rattle.frame_rules.specs.Plan.{allocating, instructions_of, spelled_by, stack_place, turned, operations_of, loads_then, pops_then, opening_by, epilogue}
use Rattle.frame_rules.specs.Bytes.{spell, prologue_code}
use Rattle.frame_layout.specs.declared.frame.FrameLayout.{FrameLayout}
use Rattle.frame_layout.specs.Layout.{IsFrame}
use Rattle.frame_layout.specs.Plans.{pushes_of, saves_of, plan_of}
use Rattle.frame_layout.specs.Infos.{prologue_bytes}
use Rattle.frame_layout.proofs.Counts.{by_pushes}
use Rattle.frame_layout.proofs.Steps.{pushing, setting, saving, after, saving_next, executed, HasRegisters, IsShort, operations_executed, executed_short, epilogue_is}

-- ---- instructions one after another

abbrev pub run : List Instr → ℕ
run is = bytes (spelled_by spell is)

pub run_both : (is js : List Instr) → run (is ++ js) ≡ run is + run js
run_both [] js = omega arith
run_both (i ∷ is) js = let r = run_both is js in omega arith

-- ---- an immediate or a displacement of 8 bits, and one of 32

is_byte : (n : ℕ) → n < 128 → is_signed W8 W64 n ≡ true
is_byte n lt = let e : ltb n 128 ≡ true = lt-ltb n 128 lt in
    ap (λ (b : Bool). b || (leb (2 ^ 64 - 128) n && ltb n (2 ^ 64))) e

is_far : (n : ℕ) → 128 ≤ n → n < 2 ^ 31 → is_signed W8 W64 n ≡ false
is_far n le lt =
    let e : ltb n 128 ≡ false = le-ltb n 128 le in
    let f : leb (2 ^ 64 - 128) n ≡ false = lt-leb (2 ^ 64 - 128) n (omega arith) in
    ap (λ (b : Bool). b || (leb (2 ^ 64 - 128) n && ltb n (2 ^ 64))) e
    ∙ ap (λ (b : Bool). b && ltb n (2 ^ 64)) f

abbrev displaced : ℕ → Bool → List ℕ
displaced d short = if short then little 1 (low W8 d) else little 4 (low W32 d)

displacement_few : (d : ℕ) → length (displacement d) ≤ 4
displacement_few d = by (is_signed W8 W64 d)
  where
    by : (short : Bool) → length (displaced d short) ≤ 4
    by true = omega arith
    by false = omega arith

-- REX.W is one byte
rex_one : (bits : ℕ) → 8 ≤ bits → length (prefixes W64 bits) ≡ 1
rex_one bits le = ap (λ (none : Bool). length (cond (not none) ((0x40 + bits) ∷ []) []))
    (ne_eqb bits 0 (λ z. (let e : bits ≡ 0 = z in absurd (omega arith))))

-- a move between a register and the word so far above RSP
word_length : (op r d : ℕ)
    → length (modrm W64 (opcodes.One op) r (places.Memory (stack_place d)))
    ≡ length (displacement d) + 4
unfolding modrm
word_length op r d =
    let bits = modrm_bits W64 r (places.Memory (stack_place d)) in
    let e = rex_one bits (omega arith) in
    let front = prefixes W64 bits ++ opcode_bytes (opcodes.One op) in
    length-append front (place_bytes (r % 8) (places.Memory (stack_place d)))
    ∙ omega (arith, length-append (prefixes W64 bits) (opcode_bytes (opcodes.One op)))

-- ---- the steps of a prologue

push_one : (r : ℕ) → r < 8 → length (chosen (instrs.Push (register r))) ≡ 1
unfolding opcode_register
push_one zero lt = refl
push_one (suc zero) lt = refl
push_one (suc (suc zero)) lt = refl
push_one (suc (suc (suc zero))) lt = refl
push_one (suc (suc (suc (suc zero)))) lt = refl
push_one (suc (suc (suc (suc (suc zero))))) lt = refl
push_one (suc (suc (suc (suc (suc (suc zero)))))) lt = refl
push_one (suc (suc (suc (suc (suc (suc (suc zero))))))) lt = refl
push_one (suc (suc (suc (suc (suc (suc (suc (suc r)))))))) lt = absurd (omega arith)

pub push_size : (r : ℕ) → r < 8 → run (instrs.Push (register r) ∷ []) ≡ 1
push_size r lt = let e = push_one r lt in omega arith

taking_byte : (probe n : ℕ) → n < 128 → run (allocating probe n true) ≡ 4
unfolding modrm
taking_byte probe n lt = let e = is_byte n lt in rw e refl

taking_far : (probe n : ℕ) → 128 ≤ n → n < 2 ^ 31 → run (allocating probe n true) ≡ 7
unfolding modrm
taking_far probe n le lt = let e = is_far n le lt in rw e refl

taking_probed : (probe n : ℕ) → run (allocating probe n false) ≡ 13
unfolding modrm opcode_register
taking_probed probe n = refl

pub takes_four : (probe n : ℕ) → n < 128 → run (allocating probe n (leb n 4096)) ≡ 4
takes_four probe n lt = ap (λ z. run (allocating probe n z)) (le-leb n 4096 (omega arith))
    ∙ taking_byte probe n lt

pub takes_seven : (probe n : ℕ) → 128 ≤ n → n ≤ 4096 → run (allocating probe n (leb n 4096)) ≡ 7
takes_seven probe n far le = ap (λ z. run (allocating probe n z)) (le-leb n 4096 le)
    ∙ taking_far probe n far (omega arith)

pub takes_thirteen : (probe n : ℕ) → 4096 < n → run (allocating probe n (leb n 4096)) ≡ 13
takes_thirteen probe n lt = ap (λ z. run (allocating probe n z)) (lt-leb n 4096 lt)
    ∙ taking_probed probe n

pub setting_size : (f : FrameLayout) (probe : ℕ) → f.framed ≡ true
    → run (instructions_of (plan_of f probe) SetFrame) ≡ 8
unfolding modrm
setting_size f probe e = by f.framed e
  where
    by : (b : Bool) → b ≡ true
        → run (instructions_of (plan_of (record f { framed = b }) probe) SetFrame) ≡ 8
    by true e = refl
    by false e = absurd cc

saving_near : (f : FrameLayout) (probe r n : ℕ)
    → run (instructions_of (plan_of f probe) (Save r n)) ≡ length (displacement n) + 4
saving_near f probe r n = let e = word_length 0x89 (number (register r)) n in omega arith

pub saving_five : (f : FrameLayout) (probe r n : ℕ) → n < 128
    → run (instructions_of (plan_of f probe) (Save r n)) ≡ 5
saving_five f probe r n lt =
    let e = saving_near f probe r n in
    let d : length (displacement n) ≡ 1 = ap (λ z. length (displaced n z)) (is_byte n lt) in
    omega arith

pub saving_eight : (f : FrameLayout) (probe r n : ℕ) → 128 ≤ n → n < 2 ^ 31
    → run (instructions_of (plan_of f probe) (Save r n)) ≡ 8
saving_eight f probe r n far lt =
    let e = saving_near f probe r n in
    let d : length (displacement n) ≡ 4 = ap (λ z. length (displaced n z)) (is_far n far lt) in
    omega arith

-- ---- where `__chkstk` is doesn't matter

allocating_same : (probe n : ℕ) (small : Bool)
    → run (allocating probe n small) ≡ run (allocating 0 n small)
unfolding modrm opcode_register
allocating_same probe n true = refl
allocating_same probe n false = refl

pub step_same : (f : FrameLayout) (probe : ℕ) (x : UnwindOperation)
    → run (instructions_of (plan_of f probe) x) ≡ run (instructions_of (plan_of f 0) x)
step_same f probe (Push r) = refl
step_same f probe (Allocate n) = allocating_same probe n (leb n 4096)
step_same f probe SetFrame = refl
step_same f probe (Save r n) = refl
step_same f probe (SaveVector r n) = refl
step_same f probe (MachineFrame e) = refl

-- ---- several steps

abbrev pub taken : FrameLayout → ℕ → List UnwindOperation → ℕ
taken f probe xs = run (flat_map (instructions_of (plan_of f probe)) xs)

pub taken_first : (f : FrameLayout) (probe : ℕ) (x : UnwindOperation) (xs : List UnwindOperation)
    → taken f probe (x ∷ xs) ≡ run (instructions_of (plan_of f probe) x) + taken f probe xs
taken_first f probe x xs = run_both (instructions_of (plan_of f probe) x)
    (flat_map (instructions_of (plan_of f probe)) xs)

taken_both : (f : FrameLayout) (probe : ℕ) (xs ys : List UnwindOperation)
    → taken f probe (xs ++ ys) ≡ taken f probe xs + taken f probe ys
taken_both f probe xs ys = let g = instructions_of (plan_of f probe) in
    ap run (flat_map-append g xs ys) ∙ run_both (flat_map g xs) (flat_map g ys)

taken_same : (f : FrameLayout) (probe : ℕ) (xs : List UnwindOperation)
    → taken f probe xs ≡ taken f 0 xs
taken_same f probe [] = refl
taken_same f probe (x ∷ xs) =
    let a = taken_first f probe x xs in
    let b = taken_first f 0 x xs in
    let s = step_same f probe x in
    let r = taken_same f probe xs in
    omega arith

-- a step takes so many at most
abbrev most : UnwindOperation → ℕ
most (Push r) = 1
most (Allocate n) = 13
most SetFrame = 8
most (Save r n) = 8
most x = 0

abbrev most_of : List UnwindOperation → ℕ
most_of [] = 0
most_of (x ∷ xs) = most x + most_of xs

lowering_few : (probe n : ℕ) (short : Bool) → is_signed W8 W64 n ≡ short
    → (4 ≤ run (allocating probe n true)) × (run (allocating probe n true) ≤ 7)
unfolding modrm
lowering_few probe n true e = let s : run (allocating probe n true) ≡ 4 = rw e refl in
    (omega arith, omega arith)
lowering_few probe n false e = let s : run (allocating probe n true) ≡ 7 = rw e refl in
    (omega arith, omega arith)

allocating_by : (probe n : ℕ) (small : Bool)
    → (4 ≤ run (allocating probe n small)) × (run (allocating probe n small) ≤ 13)
allocating_by probe n true = let e = lowering_few probe n (is_signed W8 W64 n) refl in
    let a = e.0 in let b = e.1 in (omega arith, omega arith)
allocating_by probe n false = let e = taking_probed probe n in (omega arith, omega arith)

allocating_few : (probe n : ℕ)
    → (4 ≤ run (allocating probe n (leb n 4096))) × (run (allocating probe n (leb n 4096)) ≤ 13)
allocating_few probe n = allocating_by probe n (leb n 4096)

step_few : (f : FrameLayout) (x : UnwindOperation) → IsShort f.framed x
    → run (instructions_of (plan_of f 0) x) ≤ most x
step_few f (Push r) h = let e = push_size r h in omega arith
step_few f (Allocate n) h = (allocating_few 0 n).1
step_few f SetFrame h = let e = setting_size f 0 h in omega arith
step_few f (Save r n) h = let e = saving_near f 0 r n in let d = displacement_few n in omega arith
step_few f (SaveVector r n) h = absurd h
step_few f (MachineFrame e) h = absurd h

taken_few : (f : FrameLayout) (xs : List UnwindOperation) → AllByRecursion (IsShort f.framed) xs
    → taken f 0 xs ≤ most_of xs
taken_few f [] h = omega arith
taken_few f (x ∷ xs) h =
    let a = taken_first f 0 x xs in
    let s = step_few f x h.0 in
    let r = taken_few f xs h.1 in
    omega arith

most_both : (xs ys : List UnwindOperation) → most_of (xs ++ ys) ≡ most_of xs + most_of ys
most_both [] ys = omega arith
most_both (x ∷ xs) ys = let r = most_both xs ys in omega arith

pushing_most : (k : ℕ) (framed : Bool) → k ≤ 3 → most_of (pushing k framed) ≤ 4
pushing_most = by_pushes (λ k framed. most_of (pushing k framed) ≤ 4)
    (omega arith) (omega arith) (omega arith) (omega arith) (omega arith) (omega arith)
    (omega arith) (omega arith)

setting_most : (framed : Bool) → most_of (setting framed) ≤ 8
setting_most true = omega arith
setting_most false = omega arith

saving_most : (at n : ℕ) → most_of (saving at n) ≡ 8 * n
saving_most at zero = refl
saving_most at (suc n) =
    let r = saving_most at n in
    let e = ap most_of (sym (ap (saving at) (after n)) ∙ saving_next at n) in
    omega (arith, most_both (saving at n) (Save (12 + n) (at + 8 * n) ∷ []))

executed_most : (f : FrameLayout) → HasRegisters f → most_of (executed f) ≤ 57
executed_most f h =
    let a = pushing_most f.pushes f.framed h.pushes in
    let b = setting_most f.framed in
    let c = saving_most f.slots f.saves in
    let four = h.saves in
    omega (
      arith,
      most_both (pushing f.pushes f.framed)
          (Allocate f.size ∷ (setting f.framed ++ saving f.slots f.saves)),
      most_both (setting f.framed) (saving f.slots f.saves),
    )

-- ---- the prologue

pub executed_bytes : (f : FrameLayout) → 0 < f.size → prologue_bytes f ≡ taken f 0 (executed f)
unfolding prologue_bytes
executed_bytes f some = ap (taken f 0) (operations_executed f 0 some)

-- wherever `__chkstk` is
pub prologue_taken : (f : FrameLayout) (probe : ℕ) → run (prologue_code (plan_of f probe))
    ≡ prologue_bytes f
unfolding prologue_bytes
prologue_taken f probe = taken_same f probe (turned [] (operations_of (plan_of f 0)))

-- at least those of the fixed allocation, and 57 at most
pub prologue_few : (f : FrameLayout) → HasRegisters f
    → (4 ≤ prologue_bytes f) × (prologue_bytes f ≤ 57)
prologue_few f h =
    let e = executed_bytes f h.some in
    let few = taken_few f (executed f) (executed_short f h) in
    let most = executed_most f h in
    let more = setting f.framed ++ saving f.slots f.saves in
    let both = taken_both f 0 (pushing f.pushes f.framed) (Allocate f.size ∷ more) in
    let first = taken_first f 0 (Allocate f.size) more in
    let least = (allocating_few 0 f.size).0 in
    (omega arith, omega arith)

-- so the offset of a step's end is a byte
pub offset_few : (f : FrameLayout) (xs : List UnwindOperation) (at i : ℕ) (d : UnwindOperation)
    → HasRegisters f → xs ≡ turned [] (operations_of (plan_of f 0)) → i < length xs
    → at + taken f 0 (drop i xs) ≡ taken f 0 xs
    → at + run (instructions_of (plan_of f 0) (get_or xs i d)) < 256
offset_few f xs at i d h are lt left =
    let few = (prologue_few f h).1 in
    let a = ap (taken f 0) are ∙ prologue_taken f 0 in
    let b = ap (taken f 0) (drop-cons xs i d lt) in
    let c = taken_first f 0 (get_or xs i d) (drop (suc i) xs) in
    omega arith

-- ---- the epilogue

pop_one : (r : ℕ) → r < 8 → length (chosen (instrs.Pop (register r))) ≡ 1
unfolding opcode_register
pop_one zero lt = refl
pop_one (suc zero) lt = refl
pop_one (suc (suc zero)) lt = refl
pop_one (suc (suc (suc zero))) lt = refl
pop_one (suc (suc (suc (suc zero)))) lt = refl
pop_one (suc (suc (suc (suc (suc zero))))) lt = refl
pop_one (suc (suc (suc (suc (suc (suc zero)))))) lt = refl
pop_one (suc (suc (suc (suc (suc (suc (suc zero))))))) lt = refl
pop_one (suc (suc (suc (suc (suc (suc (suc (suc r)))))))) lt = absurd (omega arith)

pops_few : (k : ℕ) (framed : Bool) → k ≤ 3 → run (pops_then (pushes_of k framed) []) ≤ 4
pops_few =
    let a = pop_one 3 (omega arith) in
    let b = pop_one 5 (omega arith) in
    let c = pop_one 6 (omega arith) in
    let d = pop_one 7 (omega arith) in
    by_pushes (λ k framed. run (pops_then (pushes_of k framed) []) ≤ 4)
    (omega arith) (omega arith) (omega arith) (omega arith) (omega arith) (omega arith)
    (omega arith) (omega arith)

loads_few : (at n : ℕ) → run (loads_then (saves_of at n) []) ≤ 8 * n
loads_few at zero = omega arith
loads_few at (suc n) =
    let e = word_length 0x8B (number (register (12 + n))) (at + 8 * n) in
    let d = displacement_few (at + 8 * n) in
    let r = loads_few at n in
    omega arith

raising_few : (n : ℕ) (short : Bool) → is_signed W8 W64 n ≡ short
    → run (instrs.Arithmetic Add W64 (places.Register Rsp) (operands.Immediate n) ∷ []) ≤ 7
unfolding modrm
raising_few n true e = let s : run (instrs.Arithmetic Add W64 (places.Register Rsp)
    (operands.Immediate n) ∷ []) ≡ 4 = rw e refl in omega arith
raising_few n false e = let s : run (instrs.Arithmetic Add W64 (places.Register Rsp)
    (operands.Immediate n) ∷ []) ≡ 7 = rw e refl in omega arith

opening_few : (f : FrameLayout) (probe : ℕ)
    → run (opening_by (plan_of f probe) (not f.framed) ∷ []) ≤ 7
unfolding modrm
opening_few f probe = by f.framed
  where
    by : (b : Bool) → run (opening_by (plan_of (record f { framed = b }) probe) (not b) ∷ []) ≤ 7
    by true = let d = displacement_few ((f.size + (2 ^ 64 - 128)) % 2 ^ 64) in omega arith
    by false = raising_few f.size (is_signed W8 W64 f.size) refl

-- 44 at most
pub epilogue_few : (f : FrameLayout) (probe : ℕ) → IsFrame f
    → run (epilogue (plan_of f probe)) ≤ 44
epilogue_few f probe h =
    let loads = loads_then (saves_of f.slots f.saves) [] in
    let opens = opening_by (plan_of f probe) (not f.framed) ∷ [] in
    let pops = pops_then (pushes_of f.pushes f.framed) [] in
    let a = loads_few f.slots f.saves in
    let b = opening_few f probe in
    let c = pops_few f.pushes f.framed h.pushes in
    let four = h.saves in
    let e = ap run (epilogue_is f probe h.some) in
    omega (
      arith,
      run_both ((loads ++ opens) ++ pops) (instrs.Return ∷ []),
      run_both (loads ++ opens) pops,
      run_both loads opens,
    )
