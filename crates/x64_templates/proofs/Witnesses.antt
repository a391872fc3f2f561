-- The premises can hold: a function's frame and a block's below it, in memory of which every byte
-- may be written.
use Rattle.std.proofs.Common.{◌≡◌, ℕ, ◌+◌, ◌<◌, ◌≤◌, ◌^◌, Bool, true, false, leb, ltb, Some, None, refl, ap, arith, inl, inr}
use Rattle.std.specs.Prelude.{◌⊎◌, ◌&&◌, not}
use Rattle.std.proofs.lemmas.Bool.{and_parts, leb-true, le-leb, le-ltb, lt-ltb}
use Rattle.host_layout.specs.Ranges.{in_guard}
use Rattle.host_layout.specs.declared.range.TheConstants.{GUARD_START, STACK_START}
use Rattle.x64_templates.specs.Words.{DATA_STACK_START, InTemporaries, InLocals, ReadWrite, Memory, Counts, Agrees, IsFunctionFrame, body_in_memory, FreshFrame, FramePlace, Roomy, FrameHolds}
use Rattle.x64_instr.specs.declared.register.Reg.{Reg}
use Rattle.x64_instr.specs.declared.register.Reg.TheVariants.{Rax, Rcx, Rdx, Rbx, Rsp, Rbp, Rsi, Rdi, R8, R9, R10, R11, R12, R13, R14, R15}
use Rattle.template_code.specs.declared.layout.TheConstants.{NO_REGISTERS}
use Rattle.x64_templates.specs.Straight.{LocalRegisters}
use Rattle.x64_templates.specs.Locals.{local_in}
use Rattle.x64_templates.proofs.Entering.{fresh_holds}

-- all bytes but those of the data stack's pointer are reserved
abbrev reserved : ℕ → Bool
reserved a = not (leb DATA_STACK_START a && ltb a (DATA_STACK_START + 8))

not_both : (x y : Bool) → y ≡ false → not (x && y) ≡ true
not_both true y e = ap not e
not_both false y e = refl

above_reserved : (a : ℕ) → DATA_STACK_START + 8 ≤ a → reserved a ≡ true
above_reserved a le =
    not_both (leb DATA_STACK_START a) (ltb a (DATA_STACK_START + 8))
    (le-ltb a (DATA_STACK_START + 8) le)

guard_reserved : (a : ℕ) → in_guard a ≡ true → reserved a ≡ true
guard_reserved a e =
    let low = leb-true GUARD_START a (and_parts (leb GUARD_START a) (ltb a STACK_START) e).0 in
    above_reserved a (omega arith)

-- 16 temporaries and 4 locals
abbrev counts : Counts
counts = record { locals = 4; temporaries = 16 }

abbrev function_place : FramePlace
function_place = record {
  layout = record {
    base = None;
    pointers = 0;
    locals = 160;
    temporaries = 32;
    slots = 192;
    frame = 200;
    registers = NO_REGISTERS;
    arrivals = 0;
    size = 200;
    pushes = 0;
    saves = 0;
    framed = false;
  };
  counts = counts;
  reserved = reserved;
  sp = 0x707FF000;
  base = 0x707FF000;
  arrived = λ i. 0;
}

-- a block, one page below, keeps the base 24 above its RSP
abbrev block_place : FramePlace
block_place = record {
  layout = record {
    base = Some 24;
    pointers = 16;
    locals = 160;
    temporaries = 32;
    slots = 192;
    frame = 200;
    registers = NO_REGISTERS;
    arrivals = 0;
    size = 200;
    pushes = 0;
    saves = 0;
    framed = false;
  };
  counts = counts;
  reserved = reserved;
  sp = 0x707FE000;
  base = 0x707FF000;
  arrived = λ i. 0;
}

function_room : Roomy function_place
function_room = record {
  temporaries = omega arith;
  locals = omega arith;
  high = omega arith;
  base_high = omega arith;
  apart = inr (omega arith);
  kept_base = refl;
}

block_room : Roomy block_place
block_room = record {
  temporaries = omega arith;
  locals = omega arith;
  high = omega arith;
  base_high = omega arith;
  apart = inr (omega arith);
  kept_base = (omega arith, omega arith);
}

function_is : IsFunctionFrame function_place
function_is = record {
  none_arrive = refl;
  base = refl;
  temporaries = omega arith;
  locals = omega arith;
  within = omega arith;
}

abbrev plain_memory : Memory
plain_memory = record {
  protection = λ a. record { rights = ReadWrite; execute = false };
  byte = λ a. 0;
}

plain_agrees : Agrees reserved plain_memory plain_memory
plain_agrees = record {
  byte = λ a r. refl;
  protection = λ a r. refl;
  guard = guard_reserved;
  pointer = λ a l u. record {
    seen = rw (le-leb DATA_STACK_START a l, lt-ltb a (DATA_STACK_START + 8) u) refl;
    writable = refl;
    small = omega arith;
  };
}

abbrev plain_registers : LocalRegisters
plain_registers = record { rbx = 0; rsi = 0; rdi = 0; r12 = 0; r13 = 0; r14 = 0; r15 = 0 }

plain_small : (r : Reg) → local_in plain_registers r < 2 ^ 64
plain_small Rbx = omega arith
plain_small Rsi = omega arith
plain_small Rdi = omega arith
plain_small R12 = omega arith
plain_small R13 = omega arith
plain_small R14 = omega arith
plain_small R15 = omega arith
plain_small Rax = omega arith
plain_small Rcx = omega arith
plain_small Rdx = omega arith
plain_small Rsp = omega arith
plain_small Rbp = omega arith
plain_small R8 = omega arith
plain_small R9 = omega arith
plain_small R10 = omega arith
plain_small R11 = omega arith

own_reserved : (a : ℕ)
    → InTemporaries function_place.layout counts function_place.sp a
    ⊎ InLocals function_place.layout counts function_place.base a → reserved a ≡ true
own_reserved a (inl h) = let l = h.0 in above_reserved a (omega arith)
own_reserved a (inr h) = let l = h.0 in above_reserved a (omega arith)

function_bare : FreshFrame function_place plain_registers plain_memory plain_memory
function_bare = record {
  small = plain_small;
  arrived = λ i. (let z : 0 < 2 ^ 64 = omega arith in z);
  bytes = λ a. (let z : 0 < 256 = omega arith in z);
  writable = λ a is. refl;
  own = own_reserved;
  base = tt;
  own_base = tt;
  agrees = plain_agrees;
}

function_holds : FrameHolds function_place plain_registers plain_memory
    (body_in_memory function_place.layout function_place.sp function_place.base
    function_place.arrived plain_registers plain_memory plain_memory)
function_holds = fresh_holds function_place plain_registers plain_memory plain_memory function_bare
