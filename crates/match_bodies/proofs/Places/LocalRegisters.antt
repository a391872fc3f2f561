-- The registers of locals, as a context has them: a frame's codes save those that hold a local, and
-- templates keep the others.
use Rattle.std.proofs.Common.{◌≡◌, ◌≢◌, ℕ, ◌+◌, ◌%◌, ◌^◌, Bool, true, false, cond, ◌<◌, ◌≤◌, List, [], ◌∷◌, refl, sym, ap, subst, ◌∙◌, arith, inl, inr}
use Rattle.std.specs.Prelude.{◌⊎◌, ◌-◌}
use Rattle.std.proofs.lemmas.Bool.{false≢true, cases_lt, lt-ltb}
use Rattle.template_code.specs.Places.{place_among}
use Rattle.template_code.specs.declared.layout.TheConstants.{LOCAL_REGISTERS}
use Rattle.match_bodies.specs.Words.{Memory, Context, context_of, kept_of, rsp, get, Layout, Reg, Rax, Rcx, Rdx, Rbx, Rsp, Rbp, Rsi, Rdi, R11, R12, R13, R14, R15, StackFrame, IsAsTold, LocalRegisters, OtherRegisters, local_registers, other_registers, local_in, KeepsRegisters, InRegister, InFrame, Arriving, place_of, now_of}
use Rattle.x64_instr.specs.declared.register.Reg.TheVariants.{R8, R9, R10}
use Rattle.x64_instr.specs.Registers.{number}
use Rattle.x64_instr.specs.Registers as numbers
use Rattle.x64_machine.specs.declared.cpu.Cpu.{Cpu}
use Rattle.eh_tables.specs.declared.code.UnwindOperation.{UnwindOperation}
use Rattle.eh_tables.specs.Infos.{Info}
use Rattle.virtual_unwind.specs.Contexts.{is_nonvolatile}
use Rattle.virtual_unwind.specs.CallerOf.{base_if, has_frame}
use Rattle.frame_rules.specs.Codes.{is_saved}
use Rattle.frame_rules.specs.Frame as rules
use Rattle.frame_rules.proofs.Planning.{nonvolatile_number}
use Rattle.frame_rules.proofs.Undoing.{framed_saved}
use Rattle.template_code.specs.Frames.{frame_register_if}
use Rattle.match_stack.specs.Stack.{AreAbove, teller, told}
use Rattle.x64_templates.specs.Locals.{is_of_local}
use Rattle.x64_templates.proofs.Locals.{locals_stay}

-- ---- registers by number

-- a context has each register of locals by its number
pub context_local : (c : Cpu) (r : Reg) → is_of_local r ≡ true
    → get (context_of c) (number r) ≡ local_in (local_registers c.registers) r
context_local c Rbx e = refl
context_local c Rsi e = refl
context_local c Rdi e = refl
context_local c R12 e = refl
context_local c R13 e = refl
context_local c R14 e = refl
context_local c R15 e = refl
context_local c Rax e = absurd cc
context_local c Rcx e = absurd cc
context_local c Rdx e = absurd cc
context_local c Rsp e = absurd cc
context_local c Rbp e = absurd cc
context_local c R8 e = absurd cc
context_local c R9 e = absurd cc
context_local c R10 e = absurd cc
context_local c R11 e = absurd cc

-- so a body's locals may stand in each of them
pub now_local : (leaf : Bool) (c : Cpu) (r : Reg) → is_of_local r ≡ true
    → now_of leaf c (number r) ≡ local_in (local_registers c.registers) r
now_local false c r e = context_local c r e
now_local true c Rbx e = refl
now_local true c Rsi e = refl
now_local true c Rdi e = refl
now_local true c R12 e = refl
now_local true c R13 e = refl
now_local true c R14 e = refl
now_local true c R15 e = refl
now_local true c Rax e = absurd cc
now_local true c Rcx e = absurd cc
now_local true c Rdx e = absurd cc
now_local true c Rsp e = absurd cc
now_local true c Rbp e = absurd cc
now_local true c R8 e = absurd cc
now_local true c R9 e = absurd cc
now_local true c R10 e = absurd cc
now_local true c R11 e = absurd cc

record IsLocalNumber (n : ℕ) : Type 0 where
  register : Reg
  local : is_of_local register ≡ true
  same : number register ≡ n

-- a nonvolatile register beside RSP is RBP or one of locals
nonvolatile_is : (n : ℕ) → is_nonvolatile n ≡ true → n ≢ 4 → (n ≡ 5) ⊎ IsLocalNumber n
nonvolatile_is n nv ne = by (numbers.register n) (nonvolatile_number n nv)
  where
    volatile : (k : ℕ) → k ≡ n → is_nonvolatile k ≡ false → ⊥
    volatile k e v = false≢true (sym v ∙ (ap is_nonvolatile e ∙ nv))

    by : (r : Reg) → number r ≡ n → (n ≡ 5) ⊎ IsLocalNumber n
    by Rbp e = inl (sym e)
    by Rbx e = inr (record { register = Rbx; local = refl; same = e })
    by Rsi e = inr (record { register = Rsi; local = refl; same = e })
    by Rdi e = inr (record { register = Rdi; local = refl; same = e })
    by R12 e = inr (record { register = R12; local = refl; same = e })
    by R13 e = inr (record { register = R13; local = refl; same = e })
    by R14 e = inr (record { register = R14; local = refl; same = e })
    by R15 e = inr (record { register = R15; local = refl; same = e })
    by Rsp e = absurd (ne (sym e))
    by Rax e = absurd (volatile 0 e refl)
    by Rcx e = absurd (volatile 1 e refl)
    by Rdx e = absurd (volatile 2 e refl)
    by R8 e = absurd (volatile 8 e refl)
    by R9 e = absurd (volatile 9 e refl)
    by R10 e = absurd (volatile 10 e refl)
    by R11 e = absurd (volatile 11 e refl)

-- no register of locals is a frame register
pub local_beside_frame : (r : Reg) (framed : Bool) → is_of_local r ≡ true
    → number r ≢ frame_register_if framed
local_beside_frame Rbx true e = λ z. absurd (omega arith)
local_beside_frame Rsi true e = λ z. absurd (omega arith)
local_beside_frame Rdi true e = λ z. absurd (omega arith)
local_beside_frame R12 true e = λ z. absurd (omega arith)
local_beside_frame R13 true e = λ z. absurd (omega arith)
local_beside_frame R14 true e = λ z. absurd (omega arith)
local_beside_frame R15 true e = λ z. absurd (omega arith)
local_beside_frame Rbx false e = λ z. absurd (omega arith)
local_beside_frame Rsi false e = λ z. absurd (omega arith)
local_beside_frame Rdi false e = λ z. absurd (omega arith)
local_beside_frame R12 false e = λ z. absurd (omega arith)
local_beside_frame R13 false e = λ z. absurd (omega arith)
local_beside_frame R14 false e = λ z. absurd (omega arith)
local_beside_frame R15 false e = λ z. absurd (omega arith)
local_beside_frame r framed e = absurd cc

-- a local in the frame stands in no register
pub not_in_register : (r : Reg) → InFrame ≡ InRegister r → ⊥
not_in_register r e = absurd cc

-- a parameter that stays in its register
pub place_early : (y : Layout) (x : ℕ) → x < y.arrivals → place_of y x ≡ Arriving
place_early y x lt = ap (λ (t : Bool). cond t Arriving (place_among y.registers LOCAL_REGISTERS x))
    (lt-ltb x y.arrivals lt)

-- none of a leaf function's stands in a register of locals
pub leaf_in_none : (y : Layout) → ((x : ℕ) → y.arrivals ≤ x → place_of y x ≡ InFrame)
    → (x : ℕ) (r : Reg) → place_of y x ≡ InRegister r → ⊥
leaf_in_none y framed x r at = elim (cases_lt x y.arrivals) [
  | inl lt ↦ arriving r (sym (place_early y x lt) ∙ at)
  | inr le ↦ not_in_register r (sym (framed x le) ∙ at)
]
  where
    arriving : (r : Reg) → Arriving ≡ InRegister r → ⊥
    arriving r e = absurd cc

-- ---- what is kept

abbrev kept_by : LocalRegisters → OtherRegisters → List ℕ
kept_by l o = o.rsp ∷ l.rbx ∷ o.rbp ∷ l.rsi ∷ l.rdi ∷ l.r12 ∷ l.r13 ∷ l.r14 ∷ l.r15 ∷ []

-- a caller relies on RSP, RBP and the registers of locals
pub kept_same : (xs zs : List ℕ) → other_registers zs ≡ other_registers xs
    → local_registers zs ≡ local_registers xs → kept_of zs ≡ kept_of xs
kept_same xs zs rest locals = λ i. kept_by (locals i) (rest i)

-- where no local stands in a register all are kept
pub all_kept : (y : Layout) → ((x : ℕ) (r : Reg) → place_of y x ≡ InRegister r → ⊥)
    → (xs zs : List ℕ) → KeepsRegisters y xs zs → kept_of zs ≡ kept_of xs
all_kept y none xs zs k = kept_same xs zs k.rest
    (locals_stay y (local_registers xs) (local_registers zs) none k.locals)

-- and those that are all the same are kept
pub registers_kept : (y : Layout) (xs zs : List ℕ) → other_registers zs ≡ other_registers xs
    → local_registers zs ≡ local_registers xs → KeepsRegisters y xs zs
registers_kept y xs zs rest locals = record {
  rest = rest;
  locals = λ r is free. ap (λ (l : LocalRegisters). local_in l r) locals;
}

-- ---- a frame whose codes save the registers of locals

-- these codes save the registers of a layout's locals
abbrev pub SavesLocals : Layout → List UnwindOperation → Type 0
SavesLocals y ops =
    (x : ℕ) (r : Reg) → place_of y x ≡ InRegister r → is_saved (number r) ops ≡ true

module _ (y : Layout) (c c' : Cpu) (keeps : KeepsRegisters y c.registers c'.registers) where
  same_stack : rsp (context_of c') ≡ rsp (context_of c)
  same_stack = ap (λ (o : OtherRegisters). o.rsp) keeps.rest

  same_base : get (context_of c') 5 ≡ get (context_of c) 5
  same_base = ap (λ (o : OtherRegisters). o.rbp) keeps.rest

  same_frame : (framed : Bool) (f : ℕ) → f ≡ frame_register_if framed
      → get (context_of c') f ≡ get (context_of c) f
  same_frame true f e = subst (λ n. get (context_of c') n ≡ get (context_of c) n) (sym e) same_base
  same_frame false f e = subst (λ n. get (context_of c') n ≡ get (context_of c) n) (sym e) refl

  module _ (ops : List UnwindOperation) (saves : SavesLocals y ops) where
    -- a nonvolatile register that they don't save is as it was
    unsaved_same : (n : ℕ) → is_nonvolatile n ≡ true → n ≢ 4 → is_saved n ops ≡ false
        → get (context_of c') n ≡ get (context_of c) n
    unsaved_same n nv ne free = elim (nonvolatile_is n nv ne) [
      | inl e ↦ subst (λ k. get (context_of c') k ≡ get (context_of c) k) (sym e) same_base
      | inr l ↦
          (let r = l.register in
          let unused = λ (i : ℕ) (at : place_of y i ≡ InRegister r).
          (let z : ⊥ = false≢true (sym free ∙ (ap (λ k. is_saved k ops) (sym l.same)
          ∙ saves i r at)) in z) in
          subst (λ k. get (context_of c') k ≡ get (context_of c) k) l.same
          (context_local c' r l.local ∙ keeps.locals r l.local unused
          ∙ sym (context_local c r l.local)))
    ]

  based : (i : Info) (b : Bool)
      → get (context_of c') i.frame_register ≡ get (context_of c) i.frame_register
      → base_if i (context_of c) b ≡ rsp (context_of c)
      → base_if i (context_of c') b ≡ rsp (context_of c')
  based i true e h = ap (λ v. (v + (2 ^ 64 - i.frame_offset)) % 2 ^ 64) e ∙ (h ∙ sym same_stack)
  based i false e h = refl

  -- so the frame is as told with these registers too
  pub told_kept : (m : Memory) (f : StackFrame) (framed : Bool) → SavesLocals y (told f)
      → (teller f.entry).frame_register ≡ frame_register_if framed
      → IsAsTold m (context_of c) f → IsAsTold m (context_of c') f
  told_kept m f framed saves register h =
      let i = teller f.entry in
      let up = sym same_stack in
      let frame = same_frame framed i.frame_register register in
      let entry : ℕ → Context = λ n. record {
        rip = f.return_address;
        kept = (n + f.size) ∷ f.others;
      } in
      record {
        offset = h.offset;
        allowed = h.allowed;
        base = based i (has_frame i) frame h.base;
        stack = subst (λ n. rules.Stack m (get (entry n)) f.return_address n n (told f)) up h.stack;
        framed = subst (λ n. rules.Framed i.frame_register i.frame_offset (get (context_of c')) n
            (told f)) up
            (framed_saved i.frame_register i.frame_offset (get (context_of c))
            (get (context_of c')) (rsp (context_of c)) (told f) h.allowed (λ s. sym frame)
            h.framed);
        others = λ r nv ne free. unsaved_same (told f) saves r nv ne free ∙ h.others r nv ne free
            ∙ ap (λ n. get (entry n) r) up;
        above = subst (λ n. AreAbove (n + f.slots) n n (told f)) up h.above;
      }
