-- Loads and stores of the source, which can fault.
use Rattle.std.proofs.Common.{◌≡◌, ℕ, zero, suc, ◌+◌, ◌*◌, ◌/◌, ◌%◌, ◌^◌, ◌<◌, Bool, true, false, cond, [], ◌∷◌, Option, Some, None, Ok, Err, refl, sym, ap, ◌∙◌, arith}
use Rattle.std.specs.Prelude.{not}
use Rattle.x64_templates.specs.Words.{Width, W8, W16, W32, W64, bytes_of, low, Protection, is_readable, is_writable, Memory, next, first_refused, may_read, may_write, number_at, with_number, with_bytes, access, unless_refused, IsApart, Rax, Rcx, Instr, Flags, ◌>>=◌, granted, effect, Gives, MachineView, machine, Agrees, above, move, Implements, is_among, refused, refusal, HasPointer}
use Rattle.flat_memory.specs.declared.access.RefusedAccess.TheVariants as accesses
use Rattle.flat_memory.specs.Memory.{distance}
use Rattle.host_layout.specs.Ranges.{in_guard}
use Rattle.x64_templates.proofs.Lemmas.{untouched}
use Rattle.x64_instr.specs.declared.operand.RegisterOrMemory.TheVariants as places
use Rattle.x64_instr.specs.declared.operand.Operand.TheVariants as operands
use Rattle.x64_instr.specs.declared.instruction.Instr.TheVariants as instrs
use Rattle.x64_machine.specs.declared.outcome.Stop.TheVariants as stops
use Rattle.x64_machine.specs.Effect as machines
use Rattle.c_operations.specs.Performed as meaning
use Rattle.template_code.specs.Operations.{load}
use Rattle.x64_templates.proofs.Straight.{executes_one, executes_then}
use Rattle.x64_templates.proofs.Leaves.{allowed}

-- ---- bytes that aren't reserved

abbrev pub free : (ℕ → Bool) → ℕ → Bool
free reserved a = not (reserved a)

free_is : (b : Bool) → not b ≡ true → b ≡ false
free_is true e = absurd cc
free_is false e = refl

pub tests_agree : (reserved f g : ℕ → Bool) → ((a : ℕ) → reserved a ≡ false → f a ≡ g a)
    → (n at : ℕ) → first_refused (free reserved) n at ≡ None
    → first_refused f n at ≡ first_refused g n at
unfolding first_refused
tests_agree reserved f g same zero at e = refl
tests_agree reserved f g same (suc n) at e = go (tests_agree reserved f g same n (next at))
    (reserved at) refl e
  where
    go : (first_refused (free reserved) n (next at) ≡ None
        → first_refused f n (next at) ≡ first_refused g n (next at)) → (b : Bool) → reserved at ≡ b
        → cond (not b) (first_refused (free reserved) n (next at)) (Some at) ≡ None
        → cond (f at) (first_refused f n (next at)) (Some at)
        ≡ cond (g at) (first_refused g n (next at)) (Some at)
    go more true r h = absurd cc
    go more false r h = ap (λ (c : Bool). cond c (first_refused f n (next at)) (Some at))
        (same at r) ∙ ap (λ (o : Option ℕ). cond (g at) o (Some at)) (more h)

pub numbers_agree : (reserved : ℕ → Bool) (f g : ℕ → ℕ) → ((a : ℕ) → reserved a ≡ false → f a ≡ g a)
    → (n at : ℕ) → first_refused (free reserved) n at ≡ None → number_at f n at ≡ number_at g n at
unfolding first_refused number_at
numbers_agree reserved f g same zero at e = refl
numbers_agree reserved f g same (suc n) at e = go (numbers_agree reserved f g same n (next at))
    (reserved at) refl e
  where
    go : (first_refused (free reserved) n (next at) ≡ None
        → number_at f n (next at) ≡ number_at g n (next at)) → (b : Bool) → reserved at ≡ b
        → cond (not b) (first_refused (free reserved) n (next at)) (Some at) ≡ None
        → f at + 256 * number_at f n (next at) ≡ g at + 256 * number_at g n (next at)
    go more true r h = absurd cc
    go more false r h = ap (λ (x : ℕ). x + 256 * number_at f n (next at)) (same at r)
        ∙ ap (λ (x : ℕ). g at + 256 * x) (more h)

-- the byte that is refused is one of those that were asked
refused_free : (reserved f : ℕ → Bool) (n at b : ℕ) → first_refused (free reserved) n at ≡ None
    → first_refused f n at ≡ Some b → reserved b ≡ false
unfolding first_refused
refused_free reserved f zero at b e h = absurd cc
refused_free reserved f (suc n) at b e h = go (refused_free reserved f n (next at) b) (reserved at)
    (f at) refl e h
  where
    go : (first_refused (free reserved) n (next at) ≡ None → first_refused f n (next at) ≡ Some b
        → reserved b ≡ false) → (r t : Bool) → reserved at ≡ r
        → cond (not r) (first_refused (free reserved) n (next at)) (Some at) ≡ None
        → cond t (first_refused f n (next at)) (Some at) ≡ Some b → reserved b ≡ false
    go more true t x p q = absurd cc
    go more false true x p q = more p q
    go more false false x p q = let same : at ≡ b = cc in ap reserved (sym same) ∙ x

not_guard : (reserved : ℕ → Bool) (m source : Memory) (b : ℕ) → Agrees reserved m source
    → reserved b ≡ false → (c : Bool) → in_guard b ≡ c → c ≡ false
not_guard reserved m source b agrees r true e = let x : true ≡ false = sym (agrees.guard b e) ∙ r in
    x
not_guard reserved m source b agrees r false e = refl

refusal_is : (write : Bool) (b : ℕ) → in_guard b ≡ false
    → refusal (refused write b) ≡ stops.Fault (record { 0 = 0xC0000005 }) (Some (write, b))
refusal_is write b e = ap (λ (c : Bool). refusal
    (cond c (accesses.Guard b) (accesses.Fault b write))) e

modes_agree : (reserved : ℕ → Bool) (m source : Memory) → Agrees reserved m source → (a : ℕ)
    → reserved a ≡ false → may_read m a ≡ may_read source a
modes_agree reserved m source agrees a r = ap (λ (x : Protection). is_readable x.rights)
    (agrees.protection a r)

pub write_modes_agree : (reserved : ℕ → Bool) (m source : Memory) → Agrees reserved m source
    → (a : ℕ)
    → reserved a ≡ false → may_write m a ≡ may_write source a
write_modes_agree reserved m source agrees a r = ap (λ (x : Protection). is_writable x.rights)
    (agrees.protection a r)

-- ---- loads

abbrev with_rax : MachineView → ℕ → MachineView
with_rax v x = record v { rax = x }

abbrev cut : Width → ℕ → ℕ
cut W8 y = low W32 (low W8 y)
cut W16 y = low W32 (low W16 y)
cut W32 y = low W32 y
cut W64 y = low W64 y

cut_is : (w : Width) (y : ℕ) → cut w y ≡ low w y
cut_is W8 y = omega arith
cut_is W16 y = omega arith
cut_is W32 y = refl
cut_is W64 y = refl

address_is : (a : ℕ) → a < 2 ^ 64 → (a + 0 + 0) % 2 ^ 64 ≡ a
address_is a lt = omega arith

load_effect : (w : Width) (v : MachineView) (rip : ℕ) (f : Flags) → v.rax < 2 ^ 64
    → effect (machine v rip f) (load w) ≡ (machines.load v.memory v.rax w
    >>= λ y. Ok (machine (with_rax v (cut w y)) rip f))
load_effect W8 v rip f lt = ap (λ (a : ℕ). machines.load v.memory a W8
    >>= λ y. Ok (machine (with_rax v (cut W8 y)) rip f)) (address_is v.rax lt)
load_effect W16 v rip f lt = ap (λ (a : ℕ). machines.load v.memory a W16
    >>= λ y. Ok (machine (with_rax v (cut W16 y)) rip f)) (address_is v.rax lt)
load_effect W32 v rip f lt = ap (λ (a : ℕ). machines.load v.memory a W32
    >>= λ y. Ok (machine (with_rax v (cut W32 y)) rip f)) (address_is v.rax lt)
load_effect W64 v rip f lt = ap (λ (a : ℕ). machines.load v.memory a W64
    >>= λ y. Ok (machine (with_rax v (cut W64 y)) rip f)) (address_is v.rax lt)

low_small : (w : Width) (y : ℕ) → low w y < 2 ^ 64
low_small W8 y = omega arith
low_small W16 y = omega arith
low_small W32 y = omega arith
low_small W64 y = omega arith

pub load_implemented : (reserved : ℕ → Bool) (w : Width) (v : MachineView) (source : Memory)
    → v.rax < 2 ^ 64 → Agrees reserved v.memory source
    → Implements reserved (load w ∷ []) v (meaning.load reserved w v.rax source)
load_implemented reserved w v source lt agrees = outer
    (first_refused (free reserved) (bytes_of w) v.rax) refl
  where
    by : (o : Option ℕ) (rip : ℕ) (f : Flags)
        → first_refused (may_read v.memory) (bytes_of w) v.rax ≡ o
        → effect (machine v rip f) (load w) ≡ (granted
        (access false o (number_at v.memory.byte (bytes_of w) v.rax))
        >>= λ y. Ok (machine (with_rax v (cut w y)) rip f))
    by o rip f e = load_effect w v rip f lt ∙ ap
        (λ (p : Option ℕ). granted (access false p (number_at v.memory.byte (bytes_of w) v.rax))
        >>= λ y. Ok (machine (with_rax v (cut w y)) rip f)) e

    inner : first_refused (free reserved) (bytes_of w) v.rax ≡ None → (o : Option ℕ)
        → first_refused (may_read source) (bytes_of w) v.rax ≡ o
        → Implements reserved (load w ∷ []) v (meaning.unless_refused false o
        (Gives (low w (number_at source.byte (bytes_of w) v.rax)) source))
    inner e None h = record {
      after = v.memory;
      yields = record {
        rcx = v.rcx;
        rdx = v.rdx;
        does = executes_one (load w) v (with_rax v
            (low w (number_at source.byte (bytes_of w) v.rax))) (λ rip f. (
              f,
              by None rip f (tests_agree reserved (may_read v.memory) (may_read source)
                  (modes_agree reserved v.memory source agrees) (bytes_of w) v.rax e ∙ h)
                  ∙ ap (λ (x : ℕ). Ok (machine (with_rax v x) rip f))
                  (cut_is w (number_at v.memory.byte (bytes_of w) v.rax)
                  ∙ ap (low w) (numbers_agree reserved v.memory.byte source.byte agrees.byte
                  (bytes_of w) v.rax e)),
            ));
      };
      small = low_small w (number_at source.byte (bytes_of w) v.rax);
      agrees = agrees;
      protection = refl;
      own = λ a o. refl;
      bytes = λ x. x;
    }
    inner e (Some b) h = λ rip f.
        by (Some b) rip f (tests_agree reserved (may_read v.memory) (may_read source)
        (modes_agree reserved v.memory source agrees) (bytes_of w) v.rax e ∙ h)
        ∙ ap Err (refusal_is false b (not_guard reserved v.memory source b agrees
        (refused_free reserved (may_read source) (bytes_of w) v.rax b e h) (in_guard b) refl))

    outer : (o : Option ℕ) → first_refused (free reserved) (bytes_of w) v.rax ≡ o
        → Implements reserved (load w ∷ []) v (meaning.unless_reserved o
        (meaning.unless_refused false (first_refused (may_read source) (bytes_of w) v.rax)
        (Gives (low w (number_at source.byte (bytes_of w) v.rax)) source)))
    outer None e = inner e (first_refused (may_read source) (bytes_of w) v.rax) refl
    outer (Some a) e = tt

-- ---- stores

abbrev pub store_instr : Width → Instr
store_instr w = instrs.Move w (places.Memory (above Rax 0)) (operands.Register Rcx)

abbrev stored_view : MachineView → Width → MachineView
stored_view v w = record v {
  memory = with_bytes v.memory (with_number v.memory.byte (bytes_of w) v.rax (low w v.rcx));
}

store_by : (w : Width) (v : MachineView) (o : Option ℕ) (rip : ℕ) (f : Flags) → v.rax < 2 ^ 64
    → first_refused (may_write v.memory) (bytes_of w) v.rax ≡ o
    → effect (machine v rip f) (store_instr w)
    ≡ (granted (access {A = Unit {0}} true o tt)
    >>= λ _. Ok (machine (record v {
      memory = unless_refused o (with_bytes v.memory
          (with_number v.memory.byte (bytes_of w) v.rax (low w v.rcx))) v.memory;
    }) rip f))
store_by w v o rip f lt e =
    ap (λ (a : ℕ). machines.store (machine v rip f) a w (low w v.rcx)) (address_is v.rax lt)
    ∙ ap (λ (p : Option ℕ). granted (access {A = Unit {0}} true p tt)
    >>= λ _. Ok (machine (record v {
      memory = unless_refused p (with_bytes v.memory
          (with_number v.memory.byte (bytes_of w) v.rax (low w v.rcx))) v.memory;
    }) rip f)) e

pub same_bytes : (f g : ℕ → ℕ) (n at v a : ℕ) → f a ≡ g a
    → with_number f n at v a ≡ with_number g n at v a
unfolding with_number
same_bytes f g n at v a e = ap (λ (x : ℕ). cond (is_among n at a) (v / 256 ^ distance at a % 256) x)
    e

-- each byte of what is written is a number of 8 bits
pub digits : (f : ℕ → ℕ) (n at v a : ℕ) → f a < 256 → with_number f n at v a < 256
unfolding with_number
digits f n at v a lt = go (is_among n at a)
  where
    go : (b : Bool) → cond b (v / 256 ^ distance at a % 256) (f a) < 256
    go true = omega arith
    go false = lt

-- the data stack's pointer stays one whatever is written
pub pointer_stored : (reserved : ℕ → Bool) (source : Memory) (n at v : ℕ)
    → HasPointer reserved source
    → HasPointer reserved (with_bytes source (with_number source.byte n at v))
pointer_stored reserved source n at v h a l u =
    let p = h a l u in
    record {
      seen = p.seen;
      writable = p.writable;
      small = digits source.byte n at v a p.small;
    }

pub own_apart : (reserved : ℕ → Bool) (n at a : ℕ) → at < 2 ^ 64
    → first_refused (free reserved) n at ≡ None → reserved a ≡ true → IsApart a at n
own_apart reserved n at a lt e own i il is =
    let f = free_is (reserved ((at + i) % 2 ^ 64)) (allowed (free reserved) n at i lt e il) in
    let x : true ≡ false = sym own ∙ ap reserved is ∙ f in absurd cc

pub store_implemented : (reserved : ℕ → Bool) (w : Width) (v : MachineView) (source : Memory)
    → v.rax < 2 ^ 64 → v.rcx < 2 ^ 64 → Agrees reserved v.memory source
    → Implements reserved (store_instr w ∷ move W64 Rax Rcx ∷ []) v
    (meaning.store reserved w v.rax v.rcx source)
store_implemented reserved w v source lt small agrees = outer
    (first_refused (free reserved) (bytes_of w) v.rax) refl
  where
    inner : first_refused (free reserved) (bytes_of w) v.rax ≡ None → (o : Option ℕ)
        → first_refused (may_write source) (bytes_of w) v.rax ≡ o
        → Implements reserved (store_instr w ∷ move W64 Rax Rcx ∷ []) v
        (meaning.unless_refused true o (Gives v.rcx
        (with_bytes source (with_number source.byte (bytes_of w) v.rax (low w v.rcx)))))
    inner e None h =
        let t = tests_agree reserved (may_write v.memory) (may_write source)
        (write_modes_agree reserved v.memory source agrees) (bytes_of w) v.rax e ∙ h in
        record {
          after = with_bytes v.memory (with_number v.memory.byte (bytes_of w) v.rax (low w v.rcx));
          yields = record {
            rcx = v.rcx;
            rdx = v.rdx;
            does = executes_then (store_instr w ∷ []) (move W64 Rax Rcx ∷ []) v (stored_view v w)
                (with_rax (stored_view v w) v.rcx)
                (executes_one (store_instr w) v (stored_view v w)
                (λ rip f. (f, store_by w v None rip f lt t)))
                (executes_one (move W64 Rax Rcx) (stored_view v w)
                (with_rax (stored_view v w) v.rcx)
                (λ rip f. (
                  f,
                  ap (λ (x : ℕ). Ok (machine (with_rax (stored_view v w) x) rip f))
                      (let q : low W64 (low W64 v.rcx) ≡ v.rcx = omega arith in q),
                )));
          };
          small = small;
          agrees = record {
            byte = λ a r. same_bytes v.memory.byte source.byte (bytes_of w) v.rax (low w v.rcx) a
                (agrees.byte a r);
            protection = agrees.protection;
            guard = agrees.guard;
            pointer = pointer_stored reserved source (bytes_of w) v.rax (low w v.rcx)
                agrees.pointer;
          };
          protection = refl;
          own = λ a own. untouched v.memory.byte (bytes_of w) v.rax (low w v.rcx) a
              (own_apart reserved (bytes_of w) v.rax a lt e own) lt;
          bytes = λ x a. digits v.memory.byte (bytes_of w) v.rax (low w v.rcx) a (x a);
        }
    inner e (Some b) h = λ rip f.
        store_by w v (Some b) rip f lt (tests_agree reserved (may_write v.memory) (may_write source)
        (write_modes_agree reserved v.memory source agrees) (bytes_of w) v.rax e ∙ h)
        ∙ ap Err (refusal_is true b (not_guard reserved v.memory source b agrees
        (refused_free reserved (may_write source) (bytes_of w) v.rax b e h) (in_guard b) refl))

    outer : (o : Option ℕ) → first_refused (free reserved) (bytes_of w) v.rax ≡ o
        → Implements reserved (store_instr w ∷ move W64 Rax Rcx ∷ []) v
        (meaning.unless_reserved o (meaning.unless_refused true
        (first_refused (may_write source) (bytes_of w) v.rax)
        (Gives v.rcx (with_bytes source (with_number source.byte (bytes_of w) v.rax
        (low w v.rcx))))))
    outer None e = inner e (first_refused (may_write source) (bytes_of w) v.rax) refl
    outer (Some a) e = tt
