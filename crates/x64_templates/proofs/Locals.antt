-- What moves between RAX, RCX and the registers of locals do.
use Rattle.std.proofs.Common.{◌≡◌, ℕ, ◌+◌, ◌%◌, ◌^◌, ◌<◌, ◌==◌, Bool, true, false, cond, List, [], ◌∷◌, None, Ok, refl, sym, ap, ◌∙◌, arith}
use Rattle.std.specs.Prelude.{slice_index, slice_set}
use Rattle.flat_memory.specs.declared.protection.TheConstants.{UNMAPPED}
use Rattle.x64_instr.specs.Registers.{number, register}
use Rattle.x64_instr.specs.declared.register.Reg.TheVariants.{Rbx, Rbp, Rsi, Rdi, R12, R13, R14, R15}
use Rattle.template_code.specs.declared.layout.TheConstants.{LOCAL_REGISTERS}
use Rattle.template_code.proofs.Places.{Each, place_register}
use Rattle.x64_templates.specs.Words.{W64, low, first_refused, may_read, number_at, Reg, Rax, Rcx, Rdx, Rsp, R8, R9, R10, R11, Flags, ◌>>=◌, Answer, State, load, effect, Layout, LocalRegisters, MachineView, machine, registers_of, arriving, Executes, move, fetched, InRegister, place_of, KeepsUnused}
use Rattle.x64_templates.specs.Locals.{is_of_local, local_in, with_local, LocalsAreFetched, LocalsAreKept}
use Rattle.x64_templates.proofs.Keeping.{index_other}
use Rattle.x64_templates.proofs.PlacedCode.{load_at}
use Rattle.x64_templates.proofs.Straight.{executes_one}

word_is : (y x : ℕ) → y ≡ x → x < 2 ^ 64 → low W64 y ≡ x
word_is y x e lt = omega arith

-- a move reads a number of 64 bits, and writes one
twice : (x y : ℕ) → y ≡ x → x < 2 ^ 64 → low W64 (low W64 y) ≡ x
twice x y e lt = omega arith

-- where the machine has a register of a local
pub local_held : (v : MachineView) (r : Reg) → is_of_local r ≡ true
    → slice_index (registers_of v) (number r) ≡ local_in v.locals r
local_held v Rbx e = refl
local_held v Rsi e = refl
local_held v Rdi e = refl
local_held v R12 e = refl
local_held v R13 e = refl
local_held v R14 e = refl
local_held v R15 e = refl
local_held v Rax e = absurd cc
local_held v Rcx e = absurd cc
local_held v Rdx e = absurd cc
local_held v Rsp e = absurd cc
local_held v Rbp e = absurd cc
local_held v R8 e = absurd cc
local_held v R9 e = absurd cc
local_held v R10 e = absurd cc
local_held v R11 e = absurd cc

-- a move from any register to RAX, or to RCX
pub register_fetched : (r : Reg) (v : MachineView) (rip : ℕ) (f : Flags) (x : ℕ)
    → slice_index (registers_of v) (number r) ≡ x → x < 2 ^ 64
    → (effect (machine v rip f) (move W64 Rax r) ≡ Ok (machine (record v { rax = x }) rip f))
    × (effect (machine v rip f) (move W64 Rcx r) ≡ Ok (machine (record v { rcx = x }) rip f))
register_fetched r v rip f x is lt =
    let e = twice x (slice_index (registers_of v) (number r)) is lt in (
      ap (λ (x : ℕ). let o : Answer State = Ok (machine (record v { rax = x }) rip f) in o) e,
      ap (λ (x : ℕ). let o : Answer State = Ok (machine (record v { rcx = x }) rip f) in o) e,
    )

pub locals_are_fetched : LocalsAreFetched
locals_are_fetched r v rip f is lt =
    register_fetched r v rip f (local_in v.locals r) (local_held v r is) lt

-- a number in RAX changes no other register
pub arriving_beside : (v : MachineView) (x i : ℕ)
    → arriving (record v { rax = x }) i ≡ arriving v i
arriving_beside v x i = by (i == 0) (i == 1) (i == 2)
  where
    by : (a b c : Bool)
        → slice_index (registers_of (record v { rax = x }))
        (number (cond a Rcx (cond b Rdx (cond c R8 R9))))
        ≡ slice_index (registers_of v) (number (cond a Rcx (cond b Rdx (cond c R8 R9))))
    by true b c = refl
    by false true c = refl
    by false false true = refl
    by false false false = refl

-- a number goes to a register of a local
abbrev put_local : (v : MachineView) (r : Reg) (rip : ℕ) (f : Flags) → ℕ → Answer State
put_local v r rip f x = Ok (machine (record v { locals = with_local v.locals r x }) rip f)

-- from another register
moves_to_local : (r from : Reg) (v : MachineView) (rip : ℕ) (f : Flags) (x : ℕ)
    → is_of_local r ≡ true → slice_index (registers_of v) (number from) ≡ x → x < 2 ^ 64
    → effect (machine v rip f) (move W64 r from) ≡ put_local v r rip f x
moves_to_local Rbx from v rip f x l e lt = ap (put_local v Rbx rip f)
    (twice x (slice_index (registers_of v) (number from)) e lt)
moves_to_local Rsi from v rip f x l e lt = ap (put_local v Rsi rip f)
    (twice x (slice_index (registers_of v) (number from)) e lt)
moves_to_local Rdi from v rip f x l e lt = ap (put_local v Rdi rip f)
    (twice x (slice_index (registers_of v) (number from)) e lt)
moves_to_local R12 from v rip f x l e lt = ap (put_local v R12 rip f)
    (twice x (slice_index (registers_of v) (number from)) e lt)
moves_to_local R13 from v rip f x l e lt = ap (put_local v R13 rip f)
    (twice x (slice_index (registers_of v) (number from)) e lt)
moves_to_local R14 from v rip f x l e lt = ap (put_local v R14 rip f)
    (twice x (slice_index (registers_of v) (number from)) e lt)
moves_to_local R15 from v rip f x l e lt = ap (put_local v R15 rip f)
    (twice x (slice_index (registers_of v) (number from)) e lt)
moves_to_local Rax from v rip f x l e lt = absurd cc
moves_to_local Rcx from v rip f x l e lt = absurd cc
moves_to_local Rdx from v rip f x l e lt = absurd cc
moves_to_local Rsp from v rip f x l e lt = absurd cc
moves_to_local Rbp from v rip f x l e lt = absurd cc
moves_to_local R8 from v rip f x l e lt = absurd cc
moves_to_local R9 from v rip f x l e lt = absurd cc
moves_to_local R10 from v rip f x l e lt = absurd cc
moves_to_local R11 from v rip f x l e lt = absurd cc

pub locals_are_kept : LocalsAreKept
locals_are_kept r v rip f is lt = moves_to_local r Rax v rip f v.rax is refl lt

pub moved_to_local : (r from : Reg) (v : MachineView) (x : ℕ) → is_of_local r ≡ true
    → slice_index (registers_of v) (number from) ≡ x → x < 2 ^ 64
    → Executes (move W64 r from ∷ []) v (record v { locals = with_local v.locals r x })
moved_to_local r from v x l e lt = executes_one (move W64 r from) v
    (record v { locals = with_local v.locals r x })
    (λ rip f. (f, moves_to_local r from v rip f x l e lt))

-- and from a place above RSP
loads_to_local : (r : Reg) (v : MachineView) (rip : ℕ) (f : Flags) (d : ℕ) → is_of_local r ≡ true
    → effect (machine v rip f) (fetched r Rsp d)
    ≡ (load v.memory ((v.rest.rsp + 0 + d) % 2 ^ 64) W64 >>= λ y. put_local v r rip f (low W64 y))
loads_to_local Rbx v rip f d l = refl
loads_to_local Rsi v rip f d l = refl
loads_to_local Rdi v rip f d l = refl
loads_to_local R12 v rip f d l = refl
loads_to_local R13 v rip f d l = refl
loads_to_local R14 v rip f d l = refl
loads_to_local R15 v rip f d l = refl
loads_to_local Rax v rip f d l = absurd cc
loads_to_local Rcx v rip f d l = absurd cc
loads_to_local Rdx v rip f d l = absurd cc
loads_to_local Rsp v rip f d l = absurd cc
loads_to_local Rbp v rip f d l = absurd cc
loads_to_local R8 v rip f d l = absurd cc
loads_to_local R9 v rip f d l = absurd cc
loads_to_local R10 v rip f d l = absurd cc
loads_to_local R11 v rip f d l = absurd cc

pub loaded_to_local : (r : Reg) (v : MachineView) (d at x : ℕ) → is_of_local r ≡ true
    → (v.rest.rsp + 0 + d) % 2 ^ 64 ≡ at → first_refused (may_read v.memory) 8 at ≡ None
    → number_at v.memory.byte 8 at ≡ x → x < 2 ^ 64
    → Executes (fetched r Rsp d ∷ []) v (record v { locals = with_local v.locals r x })
loaded_to_local r v d at x l e may is lt = executes_one (fetched r Rsp d) v
    (record v { locals = with_local v.locals r x }) (λ rip f. (
      f,
      loads_to_local r v rip f d l
          ∙ ap (λ (a : ℕ). load v.memory a W64 >>= λ y. put_local v r rip f (low W64 y)) e
          ∙ ap (λ (o : Answer ℕ). o >>= λ y. put_local v r rip f (low W64 y))
          (load_at v.memory at may)
          ∙ ap (put_local v r rip f) (word_is (number_at v.memory.byte 8 at) x is lt),
    ))

-- ---- the registers of locals, one set anew

pub local_set : (l : LocalRegisters) (r : Reg) (x : ℕ) → is_of_local r ≡ true
    → local_in (with_local l r x) r ≡ x
local_set l Rbx x e = refl
local_set l Rsi x e = refl
local_set l Rdi x e = refl
local_set l R12 x e = refl
local_set l R13 x e = refl
local_set l R14 x e = refl
local_set l R15 x e = refl
local_set l Rax x e = absurd cc
local_set l Rcx x e = absurd cc
local_set l Rdx x e = absurd cc
local_set l Rsp x e = absurd cc
local_set l Rbp x e = absurd cc
local_set l R8 x e = absurd cc
local_set l R9 x e = absurd cc
local_set l R10 x e = absurd cc
local_set l R11 x e = absurd cc

registers_set : (v : MachineView) (r : Reg) (x : ℕ) → is_of_local r ≡ true
    → registers_of (record v { locals = with_local v.locals r x })
    ≡ slice_set (registers_of v) (number r) x
registers_set v Rbx x e = refl
registers_set v Rsi x e = refl
registers_set v Rdi x e = refl
registers_set v R12 x e = refl
registers_set v R13 x e = refl
registers_set v R14 x e = refl
registers_set v R15 x e = refl
registers_set v Rax x e = absurd cc
registers_set v Rcx x e = absurd cc
registers_set v Rdx x e = absurd cc
registers_set v Rsp x e = absurd cc
registers_set v Rbp x e = absurd cc
registers_set v R8 x e = absurd cc
registers_set v R9 x e = absurd cc
registers_set v R10 x e = absurd cc
registers_set v R11 x e = absurd cc

abbrev seen_with : LocalRegisters → MachineView
seen_with l = record {
  rax = 0;
  rcx = 0;
  rdx = 0;
  locals = l;
  rest = record { rsp = 0; rbp = 0; r8 = 0; r9 = 0; r10 = 0; r11 = 0 };
  memory = record { protection = λ a. UNMAPPED; byte = λ a. 0 };
  vectored = [];
}

-- another one is as it was
pub local_beside : (l : LocalRegisters) (r q : Reg) (x : ℕ) → is_of_local r ≡ true
    → is_of_local q ≡ true → (number r ≡ number q → ⊥) → local_in (with_local l r x) q
    ≡ local_in l q
local_beside l r q x e f apart =
    let v = seen_with l in
    sym (local_held (seen_with (with_local l r x)) q f)
    ∙ ap (λ (xs : List ℕ). slice_index xs (number q)) (registers_set v r x e)
    ∙ index_other (registers_of v) (number r) (number q) x apart ∙ local_held v q f

-- ---- places

are_of_locals : Each (λ r. is_of_local r ≡ true) LOCAL_REGISTERS
are_of_locals = (refl, (refl, (refl, (refl, (refl, (refl, (refl, tt)))))))

-- the place of a local is one of these registers, or in the frame
pub place_is_local : (y : Layout) (i : ℕ) (r : Reg) → place_of y i ≡ InRegister r
    → is_of_local r ≡ true
place_is_local y i r e = place_register (λ q. is_of_local q ≡ true) y i r are_of_locals e

named : (r : Reg) → register (number r) ≡ r
named Rax = refl
named Rcx = refl
named Rdx = refl
named Rbx = refl
named Rsp = refl
named Rbp = refl
named Rsi = refl
named Rdi = refl
named R8 = refl
named R9 = refl
named R10 = refl
named R11 = refl
named R12 = refl
named R13 = refl
named R14 = refl
named R15 = refl

-- registers of one number are the same
pub same_number_same : (r q : Reg) → number r ≡ number q → r ≡ q
same_number_same r q e = sym (named r) ∙ ap register e ∙ named q

-- ---- the registers that hold no local

pub unused_same : (y : Layout) (l : LocalRegisters) → KeepsUnused y l l
unused_same y l = λ r is free. refl

pub unused_then : (y : Layout) (a b c : LocalRegisters) → KeepsUnused y a b → KeepsUnused y b c
    → KeepsUnused y a c
unused_then y a b c p q = λ r is free. q r is free ∙ p r is free

-- with none in use they are all as they were
pub locals_stay : (y : Layout) (a b : LocalRegisters)
    → ((i : ℕ) (r : Reg) → place_of y i ≡ InRegister r → ⊥) → KeepsUnused y a b → b ≡ a
locals_stay y a b none h =
    let free = λ (r : Reg) (i : ℕ) (e : place_of y i ≡ InRegister r). none i r e in
    λ j. record {
      rbx = h Rbx refl (free Rbx) j;
      rsi = h Rsi refl (free Rsi) j;
      rdi = h Rdi refl (free Rdi) j;
      r12 = h R12 refl (free R12) j;
      r13 = h R13 refl (free R13) j;
      r14 = h R14 refl (free R14) j;
      r15 = h R15 refl (free R15) j;
    }
