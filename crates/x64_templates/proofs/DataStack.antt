-- Operations of variables on the data stack, which can't fault.
use Rattle.std.proofs.Common.{◌≡◌, ℕ, zero, suc, ◌+◌, ◌-◌, ◌*◌, ◌%◌, ◌^◌, ◌<◌, ◌≤◌, Bool, true, false, cond, ◌&&◌, List, [], ◌∷◌, Option, Some, None, Ok, refl, sym, ap, subst, ◌∙◌, arith}
use Rattle.std.specs.Prelude.{not}
use Rattle.std.proofs.Math.Nat.{pow-suc}
use Rattle.x64_templates.specs.Words.{Width, W8, W16, W32, W64, bytes_of, limit, low, Memory, next, first_refused, may_read, may_write, number_at, with_number, with_bytes, access, unless_refused, pointer_of, with_pointer, DATA_STACK_START, Rax, Rcx, Rdx, Instr, Flags, ◌>>=◌, granted, added, subtracted, Gives, placed, before_last, performed, MachineView, machine, Executes, Agrees, HasPointer, at_sum, data_pointer, move, set, work, LeavesResult, Implements}
use Rattle.x64_instr.specs.declared.operand.RegisterOrMemory.TheVariants as places
use Rattle.x64_instr.specs.declared.operand.Operand.TheVariants as operands
use Rattle.x64_instr.specs.declared.instruction.Instr.TheVariants as instrs
use Rattle.x64_instr.specs.declared.instruction.Operation.TheVariants as arithmetic
use Rattle.x64_machine.specs.Effect as machines
use Rattle.c_operations.specs.declared.operation.Operation.TheVariants as operations
use Rattle.c_operations.specs.Performed as meaning
use Rattle.x64_templates.proofs.Lemmas.{untouched, writable_is_readable, low_below}
use Rattle.x64_templates.proofs.PlacedCode.{all_may, load_at}
use Rattle.x64_templates.proofs.Straight.{executes_one, executes_then}
use Rattle.x64_templates.proofs.Pures.{sets_rcx}
use Rattle.x64_templates.proofs.Accesses.{free, tests_agree, numbers_agree, write_modes_agree, same_bytes, digits, pointer_stored, own_apart}

-- ---- a number is written where the source may write it

abbrev written : Memory → ℕ → ℕ → ℕ → Memory
written m n at x = with_bytes m (with_number m.byte n at x)

-- a number is in RAX, and the same bytes were written to both memories
written_leaves : (reserved : ℕ → Bool) (n : ℕ) (v : MachineView) (source : Memory)
    (code : List Instr) (at x result rcx rdx : ℕ) → at < 2 ^ 64 → result < 2 ^ 64
    → first_refused (free reserved) n at ≡ None → Agrees reserved v.memory source
    → Executes code v (record v {
      rax = result;
      rcx = rcx;
      rdx = rdx;
      memory = written v.memory n at x;
    })
    → LeavesResult reserved code v result (written source n at x)
written_leaves reserved n v source code at x result rcx rdx lt small e agrees does = record {
  after = written v.memory n at x;
  yields = record { rcx = rcx; rdx = rdx; does = does };
  small = small;
  agrees = record {
    byte = λ a r. same_bytes v.memory.byte source.byte n at x a (agrees.byte a r);
    protection = agrees.protection;
    guard = agrees.guard;
    pointer = pointer_stored reserved source n at x agrees.pointer;
  };
  protection = refl;
  own = λ a own. untouched v.memory.byte n at x a (own_apart reserved n at a lt e own) lt;
  bytes = λ h a. digits v.memory.byte n at x a (h a);
}

-- ---- the data stack's pointer

pointer_free : (reserved : ℕ → Bool) (source : Memory) → HasPointer reserved source
    → first_refused (free reserved) 8 DATA_STACK_START ≡ None
pointer_free reserved source h =
    all_may (free reserved) 8 DATA_STACK_START (omega arith) (λ a l u. ap not (h a l u).seen)

source_writes : (reserved : ℕ → Bool) (source : Memory) → HasPointer reserved source
    → first_refused (may_write source) 8 DATA_STACK_START ≡ None
source_writes reserved source h =
    all_may (may_write source) 8 DATA_STACK_START (omega arith) (λ a l u. (h a l u).writable)

-- and so the machine may write it, and read it
pointer_writes : (reserved : ℕ → Bool) (m source : Memory) → Agrees reserved m source
    → first_refused (may_write m) 8 DATA_STACK_START ≡ None
pointer_writes reserved m source agrees =
    tests_agree reserved (may_write m) (may_write source)
    (write_modes_agree reserved m source agrees) 8 DATA_STACK_START
    (pointer_free reserved source agrees.pointer)
    ∙ source_writes reserved source agrees.pointer

pointer_reads : (reserved : ℕ → Bool) (m source : Memory) → Agrees reserved m source
    → first_refused (may_read m) 8 DATA_STACK_START ≡ None
pointer_reads reserved m source agrees =
    writable_is_readable m 8 DATA_STACK_START (pointer_writes reserved m source agrees)

pointer_same : (reserved : ℕ → Bool) (m source : Memory) → Agrees reserved m source
    → number_at m.byte 8 DATA_STACK_START ≡ pointer_of source
pointer_same reserved m source agrees =
    numbers_agree reserved m.byte source.byte agrees.byte 8 DATA_STACK_START
    (pointer_free reserved source agrees.pointer)

-- bytes of 8 bits make a number of as many bits as they have
digit_more : (x p n : ℕ) → x < 256 → n < p → x + 256 * n < p * 256
digit_more x p n lx ln = omega arith

few_bits : (f : ℕ → ℕ) (n at : ℕ) → at + n < 2 ^ 64
    → ((a : ℕ) → at ≤ a → a < at + n → f a < 256) → number_at f n at < 256 ^ n
unfolding number_at
few_bits f zero at lt h = omega arith
few_bits f (suc n) at lt h =
    let e : next at ≡ at + 1 = omega arith in
    let r = few_bits f n (at + 1) (omega arith) (λ a p q. h a (omega arith) (omega arith)) in
    let s : number_at f n (next at) < 256 ^ n =
    subst (λ a. number_at f n a < 256 ^ n) (sym e) r in
    subst (λ p. f at + 256 * number_at f n (next at) < p) (sym (pow-suc 256 n))
    (digit_more (f at) (256 ^ n) (number_at f n (next at)) (h at (omega arith) (omega arith)) s)

pointer_small : (reserved : ℕ → Bool) (source : Memory) → HasPointer reserved source
    → pointer_of source < 2 ^ 64
pointer_small reserved source h =
    few_bits source.byte 8 DATA_STACK_START (omega arith) (λ a l u. (h a l u).small)

-- what the source's memory is after its pointer is written
pointer_is_written : (reserved : ℕ → Bool) (source : Memory) (x : ℕ) → HasPointer reserved source
    → written source 8 DATA_STACK_START x ≡ with_pointer source x
pointer_is_written reserved source x h =
    sym (ap (λ (o : Option ℕ). unless_refused o (written source 8 DATA_STACK_START x) source)
    (source_writes reserved source h))

pointer_leaves : (reserved : ℕ → Bool) (v : MachineView) (source : Memory) (code : List Instr)
    (x result rcx rdx : ℕ) → result < 2 ^ 64 → Agrees reserved v.memory source
    → Executes code v (record v {
      rax = result;
      rcx = rcx;
      rdx = rdx;
      memory = written v.memory 8 DATA_STACK_START x;
    })
    → LeavesResult reserved code v result (with_pointer source x)
pointer_leaves reserved v source code x result rcx rdx small agrees does =
    subst (λ (m : Memory). LeavesResult reserved code v result m)
    (pointer_is_written reserved source x agrees.pointer)
    (written_leaves reserved 8 v source code DATA_STACK_START x result rcx rdx (omega arith) small
    (pointer_free reserved source agrees.pointer) agrees does)

-- ---- instructions

abbrev with_rax : MachineView → ℕ → MachineView
with_rax v x = record v { rax = x }

abbrev with_rcx : MachineView → ℕ → MachineView
with_rcx v x = record v { rcx = x }

abbrev with_rdx : MachineView → ℕ → MachineView
with_rdx v x = record v { rdx = x }

abbrev with_memory : MachineView → Memory → MachineView
with_memory v m = record v { memory = m }

thrice : (x : ℕ) → low W64 (low W64 (low W64 x)) ≡ low W64 x
thrice x = omega arith

sets_rdx : (n : ℕ) (v : MachineView) → Executes (set Rdx n ∷ []) v (with_rdx v (low W64 n))
sets_rdx n v = executes_one (set Rdx n) v (with_rdx v (low W64 n)) (λ rip f. (
  f,
  ap (λ (x : ℕ). Ok (machine (with_rdx v x) rip f)) (thrice n),
))

takes_rcx : (v : MachineView) → v.rcx < 2 ^ 64
    → Executes (move W64 Rax Rcx ∷ []) v (with_rax v v.rcx)
takes_rcx v lt = executes_one (move W64 Rax Rcx) v (with_rax v v.rcx) (λ rip f. (
  f,
  ap (λ (x : ℕ). Ok (machine (with_rax v x) rip f))
      (let e : low W64 (low W64 v.rcx) ≡ v.rcx = omega arith in e),
))

-- a store where the machine may write
stores : (v : MachineView) (w : Width) (at x rip : ℕ) (f : Flags)
    → first_refused (may_write v.memory) (bytes_of w) at ≡ None
    → machines.store (machine v rip f) at w x
    ≡ Ok (machine (with_memory v (written v.memory (bytes_of w) at x)) rip f)
stores v w at x rip f e =
    ap (λ (o : Option ℕ). granted (access {A = Unit {0}} true o tt)
    >>= λ _. Ok (machine (with_memory v
    (unless_refused o (written v.memory (bytes_of w) at x) v.memory)) rip f)) e

-- the pointer to RAX
abbrev take_pointer : Instr
take_pointer = instrs.Move W64 (places.Register Rax) (operands.Memory data_pointer)

takes_pointer : (v : MachineView) (p : ℕ) → first_refused (may_read v.memory) 8 DATA_STACK_START
    ≡ None → number_at v.memory.byte 8 DATA_STACK_START ≡ p → p < 2 ^ 64
    → Executes (take_pointer ∷ []) v (with_rax v p)
takes_pointer v p may is lt = executes_one take_pointer v (with_rax v p) (λ rip f. (
  f,
  ap (λ (o : machines.Answer ℕ). o >>= λ y. Ok (machine (with_rax v (low W64 y)) rip f))
      (load_at v.memory DATA_STACK_START may)
      ∙ ap (λ (y : ℕ). Ok (machine (with_rax v y) rip f))
      (let e : low W64 (number_at v.memory.byte 8 DATA_STACK_START) ≡ p = omega arith in e),
))

-- RCX added to it
abbrev add_pointer : Instr
add_pointer =
    instrs.Arithmetic arithmetic.Add W64 (places.Memory data_pointer) (operands.Register Rcx)

adds_pointer : (v : MachineView) (x : ℕ) → first_refused (may_read v.memory) 8 DATA_STACK_START
    ≡ None → first_refused (may_write v.memory) 8 DATA_STACK_START ≡ None
    → low W64 (number_at v.memory.byte 8 DATA_STACK_START + low W64 v.rcx) ≡ x
    → Executes (add_pointer ∷ []) v
    (with_memory v (written v.memory 8 DATA_STACK_START x))
unfolding added
adds_pointer v x reads writes is =
    executes_one add_pointer v (with_memory v (written v.memory 8 DATA_STACK_START x))
    (λ rip f. (
      (added W64 (number_at v.memory.byte 8 DATA_STACK_START) (low W64 v.rcx)).1,
      rw (writes, reads, is) refl,
    ))

-- RCX to it
abbrev put_pointer : Instr
put_pointer = instrs.Move W64 (places.Memory data_pointer) (operands.Register Rcx)

puts_pointer : (v : MachineView) (x : ℕ) → first_refused (may_write v.memory) 8 DATA_STACK_START
    ≡ None → low W64 v.rcx ≡ x
    → Executes (put_pointer ∷ []) v (with_memory v (written v.memory 8 DATA_STACK_START x))
puts_pointer v x writes is =
    executes_one put_pointer v (with_memory v (written v.memory 8 DATA_STACK_START x))
    (λ rip f. (
      f,
      stores v W64 DATA_STACK_START (low W64 v.rcx) rip f writes
          ∙ ap (λ (y : ℕ). Ok (machine (with_memory v (written v.memory 8 DATA_STACK_START y))
          rip f)) is,
    ))

-- ---- the pointer's operations

pub allocate_implemented : (reserved : ℕ → Bool) (n : ℕ) (v : MachineView) (source : Memory)
    → Agrees reserved v.memory source
    → Implements reserved (work (operations.Allocate n)) v
    (performed reserved (operations.Allocate n) v.rax v.rcx source)
allocate_implemented reserved n v source agrees =
    let p = pointer_of source in
    let reads = pointer_reads reserved v.memory source agrees in
    let writes = pointer_writes reserved v.memory source agrees in
    let same = pointer_same reserved v.memory source agrees in
    let small = pointer_small reserved source agrees.pointer in
    let one = with_rax v p in
    let two = with_rcx one (low W64 n) in
    let three = with_memory two (written v.memory 8 DATA_STACK_START (low W64 (p + n))) in
    let e : low W64 (number_at v.memory.byte 8 DATA_STACK_START + low W64 (low W64 n))
    ≡ low W64 (p + n) = omega arith in
    pointer_leaves reserved v source (work (operations.Allocate n)) (low W64 (p + n)) p
    (low W64 n) v.rdx small agrees
    (executes_then (take_pointer ∷ []) (set Rcx n ∷ add_pointer ∷ []) v one three
    (takes_pointer v p reads same small)
    (executes_then (set Rcx n ∷ []) (add_pointer ∷ []) one two three (sets_rcx n one)
    (adds_pointer two (low W64 (p + n)) reads writes e)))

abbrev add_rax : Instr
add_rax = instrs.Arithmetic arithmetic.Add W64 (places.Register Rcx) (operands.Register Rax)

adds_rax : (v : MachineView) (x : ℕ) → low W64 (low W64 (low W64 v.rcx + low W64 v.rax)) ≡ x
    → Executes (add_rax ∷ []) v (with_rcx v x)
unfolding added
adds_rax v x e =
    let flags : Flags = (added W64 (low W64 v.rcx) (low W64 v.rax)).1 in
    executes_one add_rax v (with_rcx v x)
    (λ rip f. (flags, ap (λ (y : ℕ). Ok (machine (with_rcx v y) rip flags)) e))

pub set_pointer_implemented : (reserved : ℕ → Bool) (n : ℕ) (v : MachineView) (source : Memory)
    → v.rax < 2 ^ 64 → Agrees reserved v.memory source
    → Implements reserved (work (operations.SetPointer n)) v
    (performed reserved (operations.SetPointer n) v.rax v.rcx source)
set_pointer_implemented reserved n v source lt agrees =
    let x = low W64 (v.rax + n) in
    let writes = pointer_writes reserved v.memory source agrees in
    let one = with_rcx v (low W64 n) in
    let two = with_rcx v x in
    let three = with_memory two (written v.memory 8 DATA_STACK_START x) in
    pointer_leaves reserved v source (work (operations.SetPointer n)) x v.rax x v.rdx lt agrees
    (executes_then (set Rcx n ∷ []) (add_rax ∷ put_pointer ∷ []) v one three (sets_rcx n v)
    (executes_then (add_rax ∷ []) (put_pointer ∷ []) one two three
    (adds_rax one x (omega arith)) (puts_pointer two x writes (omega arith))))

-- ---- stores that the language says nothing of where they would be refused

both_free : (f g : ℕ → Bool) (n at : ℕ) → first_refused (λ a. f a && g a) n at ≡ None
    → (first_refused f n at ≡ None) × (first_refused g n at ≡ None)
unfolding first_refused
both_free f g zero at e = (refl, refl)
both_free f g (suc n) at e = go (both_free f g n (next at)) (f at) (g at) refl refl e
  where
    go : (first_refused (λ a. f a && g a) n (next at) ≡ None
        → (first_refused f n (next at) ≡ None) × (first_refused g n (next at) ≡ None))
        → (x y : Bool) → f at ≡ x → g at ≡ y
        → cond (x && y) (first_refused (λ a. f a && g a) n (next at)) (Some at) ≡ None
        → (cond (f at) (first_refused f n (next at)) (Some at) ≡ None)
        × (cond (g at) (first_refused g n (next at)) (Some at) ≡ None)
    go more true true p q h = let r = more h in (rw p r.0, rw q r.1)
    go more true false p q h = absurd cc
    go more false y p q h = absurd cc

-- the bytes may be written by the source, and so by the machine
placed_writes : (reserved : ℕ → Bool) (m source : Memory) (n at : ℕ) → Agrees reserved m source
    → first_refused (λ a. not (reserved a) && may_write source a) n at ≡ None
    → (first_refused (free reserved) n at ≡ None) × (first_refused (may_write m) n at ≡ None)
placed_writes reserved m source n at agrees e =
    let both = both_free (free reserved) (may_write source) n at e in (
      both.0,
      tests_agree reserved (may_write m) (may_write source)
          (write_modes_agree reserved m source agrees) n at both.0
          ∙ both.1,
    )

-- what leads there where they may be written leads to what the meaning says
placed_by : (reserved : ℕ → Bool) (w : Width) (v : MachineView) (source : Memory)
    (code : List Instr) (at x result rcx rdx : ℕ) → at < 2 ^ 64 → result < 2 ^ 64
    → Agrees reserved v.memory source
    → (first_refused (may_write v.memory) (bytes_of w) at ≡ None → Executes code v (record v {
      rax = result;
      rcx = rcx;
      rdx = rdx;
      memory = written v.memory (bytes_of w) at (low w x);
    }))
    → Implements reserved code v (placed reserved w at x result source)
placed_by reserved w v source code at x result rcx rdx lt small agrees does =
    by (first_refused (λ a. not (reserved a) && may_write source a) (bytes_of w) at) refl
  where
    by : (o : Option ℕ)
        → first_refused (λ a. not (reserved a) && may_write source a) (bytes_of w) at ≡ o
        → Implements reserved code v (meaning.unless_reserved o
        (Gives result (written source (bytes_of w) at (low w x))))
    by None e =
        let may = placed_writes reserved v.memory source (bytes_of w) at agrees e in
        written_leaves reserved (bytes_of w) v source code at (low w x) result rcx rdx lt small
        may.0 agrees (does may.1)
    by (Some a) e = tt

-- a store of a register at the sum of two
abbrev place_instr : Width → Instr
place_instr w = instrs.Move w (places.Memory (at_sum Rax Rdx)) (operands.Register Rcx)

places_rcx : (w : Width) (v : MachineView) (at : ℕ) → (v.rax + 1 * v.rdx + 0) % 2 ^ 64 ≡ at
    → first_refused (may_write v.memory) (bytes_of w) at ≡ None
    → Executes (place_instr w ∷ []) v
    (with_memory v (written v.memory (bytes_of w) at (low w v.rcx)))
places_rcx w v at e may =
    executes_one (place_instr w) v
    (with_memory v (written v.memory (bytes_of w) at (low w v.rcx)))
    (λ rip f. (
      f,
      ap (λ (a : ℕ). machines.store (machine v rip f) a w (low w v.rcx)) e
          ∙ stores v w at (low w v.rcx) rip f may,
    ))

pub place_implemented : (reserved : ℕ → Bool) (w : Width) (offset : ℕ) (v : MachineView)
    (source : Memory) → v.rax < 2 ^ 64 → v.rcx < 2 ^ 64 → Agrees reserved v.memory source
    → Implements reserved (work (operations.Place w offset)) v
    (performed reserved (operations.Place w offset) v.rax v.rcx source)
place_implemented reserved w offset v source la lb agrees =
    let at = low W64 (v.rax + offset) in
    let one = with_rdx v (low W64 offset) in
    let two = with_memory one (written v.memory (bytes_of w) at (low w v.rcx)) in
    let three = with_rax two v.rcx in
    let sum : (v.rax + 1 * low W64 offset + 0) % 2 ^ 64 ≡ at = omega arith in
    placed_by reserved w v source (work (operations.Place w offset)) at v.rcx v.rcx v.rcx
    (low W64 offset) (omega arith) lb agrees
    (λ may. executes_then (set Rdx offset ∷ []) (place_instr w ∷ move W64 Rax Rcx ∷ []) v one three
    (sets_rdx offset v)
    (executes_then (place_instr w ∷ []) (move W64 Rax Rcx ∷ []) one two three
    (places_rcx w one at sum may) (takes_rcx two lb)))

-- ---- an element is cleared

abbrev add_rdx : Instr
add_rdx = instrs.Arithmetic arithmetic.Add W64 (places.Register Rax) (operands.Register Rdx)

adds_rdx : (v : MachineView) (x : ℕ) → low W64 (low W64 (low W64 v.rax + low W64 v.rdx)) ≡ x
    → Executes (add_rdx ∷ []) v (with_rax v x)
unfolding added
adds_rdx v x e =
    let flags : Flags = (added W64 (low W64 v.rax) (low W64 v.rdx)).1 in
    executes_one add_rdx v (with_rax v x)
    (λ rip f. (flags, ap (λ (y : ℕ). Ok (machine (with_rax v y) rip flags)) e))

abbrev step_back : Width → Instr
step_back w =
    instrs.Arithmetic arithmetic.Sub W64 (places.Register Rcx) (operands.Immediate (bytes_of w))

back_is : (w : Width) (x : ℕ)
    → low W64 (low W64 (low W64 x + (limit W64 - low W64 (bytes_of w)))) ≡ before_last w x
back_is W8 x = omega arith
back_is W16 x = omega arith
back_is W32 x = omega arith
back_is W64 x = omega arith

steps_back : (w : Width) (v : MachineView)
    → Executes (step_back w ∷ []) v (with_rcx v (before_last w v.rcx))
unfolding subtracted
steps_back w v =
    let flags : Flags = (subtracted W64 (low W64 v.rcx) (low W64 (bytes_of w))).1 in
    executes_one (step_back w) v (with_rcx v (before_last w v.rcx))
    (λ rip f. (flags, ap (λ (y : ℕ). Ok (machine (with_rcx v y) rip flags)) (back_is w v.rcx)))

abbrev clear_instr : Width → Instr
clear_instr w = instrs.Move w (places.Memory (at_sum Rax Rcx)) (operands.Immediate 0)

clears : (w : Width) (v : MachineView) (at : ℕ) → (v.rax + 1 * v.rcx + 0) % 2 ^ 64 ≡ at
    → first_refused (may_write v.memory) (bytes_of w) at ≡ None
    → Executes (clear_instr w ∷ []) v (with_memory v (written v.memory (bytes_of w) at (low w 0)))
clears w v at e may =
    executes_one (clear_instr w) v (with_memory v (written v.memory (bytes_of w) at (low w 0)))
    (λ rip f. (
      f,
      ap (λ (a : ℕ). machines.store (machine v rip f) a w (low w 0)) e
          ∙ stores v w at (low w 0) rip f may,
    ))

pub clear_implemented : (reserved : ℕ → Bool) (w : Width) (offset : ℕ) (v : MachineView)
    (source : Memory) → v.rax < 2 ^ 64 → v.rcx < 2 ^ 64 → Agrees reserved v.memory source
    → Implements reserved (work (operations.Clear w offset)) v
    (performed reserved (operations.Clear w offset) v.rax v.rcx source)
clear_implemented reserved w offset v source la lb agrees =
    let back = before_last w v.rcx in
    let base = low W64 (v.rax + offset) in
    let at = low W64 (v.rax + offset + back) in
    let one = with_rdx v (low W64 offset) in
    let two = with_rax one base in
    let three = with_rcx two back in
    let four = with_memory three (written v.memory (bytes_of w) at (low w 0)) in
    let five = with_rax four back in
    let sum : (base + 1 * back + 0) % 2 ^ 64 ≡ at = omega arith in
    let small : back < 2 ^ 64 = low_below W64 _ in
    placed_by reserved w v source (work (operations.Clear w offset)) at 0 back back
    (low W64 offset) (low_below W64 _) small agrees
    (λ may. executes_then (set Rdx offset ∷ [])
    (add_rdx ∷ step_back w ∷ clear_instr w ∷ move W64 Rax Rcx ∷ []) v one five (sets_rdx offset v)
    (executes_then (add_rdx ∷ []) (step_back w ∷ clear_instr w ∷ move W64 Rax Rcx ∷ []) one two five
    (adds_rdx one base (omega arith))
    (executes_then (step_back w ∷ []) (clear_instr w ∷ move W64 Rax Rcx ∷ []) two three five
    (steps_back w two)
    (executes_then (clear_instr w ∷ []) (move W64 Rax Rcx ∷ []) three four five
    (clears w three at sum may) (takes_rcx four small)))))
