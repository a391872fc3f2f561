-- What the loads of saved registers and the instructions of an epilogue do to the frame.
use Rattle.std.proofs.Common.{◌≡◌, ◌≢◌, ℕ, ◌+◌, ◌%◌, ◌^◌, ◌<◌, ◌≤◌, Bool, true, false, cond, not, ◌&&◌, eqb, leb, List, [], ◌∷◌, length, get_or, set, Option, Some, None, Ok, refl, sym, ap, subst, ◌∙◌, arith, inl, inr, length-set}
use Rattle.std.proofs.lemmas.Bool.{cases_eq, false≢true, and_parts, or_cases, or_left, or_right, eqb-true, leb-true, ne_eqb, eq-eqb, not-true}
use Rattle.frame_rules.specs.Words.{W64, Memory, number_at, access, Reg, MemRef, Instr, number, Cpu, ◌>>=◌, State, Answer, granted, with_rip, load, effect, address_of, UnwindOperation, Push, Allocate, SetFrame, Save, SaveVector, MachineFrame, is_nonvolatile, sets_frame, allocation, pushed, is_saved, may_save, are_allowed, are_apart, are_pushes, is_allocated, IsWord, Stack, Framed, Others, HoldsFrame, has, saved_at, is_place, if_place, restored_by, registers}
use Rattle.x64_instr.specs.declared.operand.RegisterOrMemory.TheVariants as places
use Rattle.x64_instr.specs.declared.operand.Operand.TheVariants as operands
use Rattle.x64_instr.specs.declared.instruction.Instr.TheVariants as instrs
use Rattle.frame_rules.proofs.Undoing.{stack_depth, saved_register, framed_saved}
use Rattle.frame_rules.proofs.Order.{Ordered, push, allocate, frame, save, framed_above}
use Rattle.frame_rules.proofs.Lemmas.{number_small}
use Rattle.frame_rules.proofs.Steps.{became, set_same, set_other, place_address, allocation_depth}

-- ---- where saved registers are

pushes_unsaved : (r : ℕ) (xs : List UnwindOperation) → are_pushes xs ≡ true → saved_at r xs ≡ None
pushes_unsaved r [] h = refl
pushes_unsaved r (Push q ∷ xs) h = pushes_unsaved r xs h
pushes_unsaved r (Allocate k ∷ xs) h = absurd (false≢true h)
pushes_unsaved r (SetFrame ∷ xs) h = absurd (false≢true h)
pushes_unsaved r (Save q k ∷ xs) h = absurd (false≢true h)
pushes_unsaved r (SaveVector q k ∷ xs) h = absurd (false≢true h)
pushes_unsaved r (MachineFrame k ∷ xs) h = absurd (false≢true h)

allocated_unsaved : (r : ℕ) (xs : List UnwindOperation) → is_allocated xs ≡ true
    → saved_at r xs ≡ None
allocated_unsaved r [] h = refl
allocated_unsaved r (Push q ∷ xs) h = pushes_unsaved r xs h
allocated_unsaved r (Allocate k ∷ xs) h = pushes_unsaved r xs h
allocated_unsaved r (SetFrame ∷ xs) h = absurd (false≢true h)
allocated_unsaved r (Save q k ∷ xs) h = absurd (false≢true h)
allocated_unsaved r (SaveVector q k ∷ xs) h = absurd (false≢true h)
allocated_unsaved r (MachineFrame k ∷ xs) h = absurd (false≢true h)

not_some : {n : ℕ} (o : Option ℕ) → o ≡ None → o ≡ Some n → ⊥
not_some o a b = absurd cc

some_number : {x y : ℕ} → Some x ≡ Some y → x ≡ y
some_number e = cc

-- the word of a saved register, and that the frame register isn't one where it's set
pub record SavedAt (f offset : ℕ) (m : Memory) (old : ℕ → ℕ) (base at r n : ℕ)
    (ops : List UnwindOperation) : Type 0 where
  pub saved : is_saved r ops ≡ true
  pub inside : n + 8 ≤ allocation ops
  pub word : IsWord m (base + n) (old r)
  pub framed : (now after : ℕ → ℕ) → ((k : ℕ) → k ≢ r → after k ≡ now k)
      → Framed f offset now at ops → Framed f offset after at ops

pub saved_place : (f offset : ℕ) (m : Memory) (old : ℕ → ℕ) (back base at r n : ℕ)
    (ops : List UnwindOperation) → Ordered ops → are_allowed f ops ≡ true
    → Stack m old back base at ops → saved_at r ops ≡ Some n
    → SavedAt f offset m old base at r n ops
saved_place f offset m old back base at r n [] o a s e = absurd (not_some None refl e)
saved_place f offset m old back base at r n (Push q ∷ ops) (push p o) a s e = absurd
    (not_some (saved_at r ops) (pushes_unsaved r ops p) e)
saved_place f offset m old back base at r n (Allocate k ∷ ops) (allocate p o) a s e = absurd
    (not_some (saved_at r ops) (pushes_unsaved r ops p) e)
saved_place f offset m old back base at r n (SetFrame ∷ ops) (frame t p o) a s e = absurd
    (not_some (saved_at r ops) (allocated_unsaved r ops t) e)
saved_place f offset m old back base at r n (Save q k ∷ ops) (save o) a s e =
    let parts = and_parts (may_save q ops && (leb (k + 8) (allocation ops) && are_apart k ops))
    (are_allowed f ops) a in
    let may = and_parts (may_save q ops) (leb (k + 8) (allocation ops) && are_apart k ops)
    parts.0 in
    elim (cases_eq q r) [
      | inl same ↦
          let here : k ≡ n = some_number (sym
          (ap (λ b. cond b (Some k) (saved_at r ops)) (eq-eqb q r same)) ∙ e) in
          let once = and_parts (is_nonvolatile q) (not (eqb q 4) && not (is_saved q ops)) may.0 in
          let alone = not-true (is_saved q ops)
          (and_parts (not (eqb q 4)) (not (is_saved q ops)) once.1).1 in
          record {
            saved = or_left (eqb q r) (is_saved r ops) (eq-eqb q r same);
            inside = let l = leb-true (k + 8) (allocation ops)
                (and_parts (leb (k + 8) (allocation ops)) (are_apart k ops) may.1).0 in omega arith;
            word = subst (λ j. IsWord m (base + j) (old r)) here
                (subst (λ j. IsWord m (base + k) (old j)) same s.0);
            framed = λ now after keeps g. framed_saved f offset now after at ops parts.1
                (λ y. sym (keeps f (λ z. false≢true
                (sym alone ∙ (ap (λ j. is_saved j ops) (same ∙ sym z) ∙ y))))) g;
          }
      | inr ne ↦
          let rest = saved_place f offset m old back base at r n ops o parts.1 s.1
          (sym (ap (λ b. cond b (Some k) (saved_at r ops)) (ne_eqb q r ne)) ∙ e) in
          record {
            saved = or_right (eqb q r) (is_saved r ops) rest.saved;
            inside = let l = rest.inside in omega arith;
            word = rest.word;
            framed = rest.framed;
          }
    ]
saved_place f offset m old back base at r n (SaveVector q k ∷ ops) o a s e = absurd s
saved_place f offset m old back base at r n (MachineFrame k ∷ ops) o a s e = absurd s

-- ---- states

-- in the body, with these registers loaded again
pub record InLoads (f offset : ℕ) (old : ℕ → ℕ) (back : ℕ) (ops : List UnwindOperation)
    (rs : List ℕ) (s : State) : Type 0 where
  pub length : length s.cpu.registers ≡ 16
  pub holds : HoldsFrame f offset s.memory old back (registers s) ops ops
  pub restored : (r : ℕ) → has r rs ≡ true → registers s r ≡ old r

-- in an epilogue, with these registers still to be popped
pub record InPops (f : ℕ) (old : ℕ → ℕ) (back : ℕ) (rs : List ℕ) (s : State) : Type 0 where
  pub length : length s.cpu.registers ≡ 16
  pub base : ℕ
  pub stack : Stack s.memory old back base (registers s 4) (pushed rs)
  pub others : Others old (registers s) (pushed rs)
  pub allowed : are_allowed f (pushed rs) ≡ true

-- what is known of the codes and of the function's first state
pub record Known (f offset : ℕ) (old : ℕ → ℕ) (ops : List UnwindOperation) : Type 0 where
  pub ordered : Ordered ops
  pub allowed : are_allowed f ops ≡ true
  pub frame : f ≢ 0 → sets_frame ops ≡ true
  pub high : old 4 < 2 ^ 47
  pub fits : (r : ℕ) → old r < 2 ^ 64

-- ---- a load

pub load_at : (m : Memory) (at v : ℕ) → IsWord m at v → load m at W64 ≡ Ok v
load_at m at v w = ap (λ (o : Option ℕ). granted (access false o (number_at m.byte 8 at)))
    w.readable ∙ ap Ok w.value

pub load_effect : (s : State) (a at v : ℕ) (q : Reg) (m : MemRef)
    → address_of (record { registers = s.cpu.registers; rip = a; flags = s.cpu.flags }) m ≡ at
    → load s.memory at W64 ≡ Ok v
    → effect (with_rip s a) (instrs.Move W64 (places.Register q) (operands.Memory m))
    ≡ Ok (record s {
      cpu = record {
        registers = set s.cpu.registers (number q) (v % 2 ^ 64);
        rip = a;
        flags = s.cpu.flags;
      };
    })
load_effect s a at v q m place got =
    let G : Answer ℕ → Answer State = λ r. r >>= λ x. Ok
    (record s {
      cpu = record {
        registers = set s.cpu.registers (number q) (x % 2 ^ 64);
        rip = a;
        flags = s.cpu.flags;
      };
    }) in
    ap (λ x. G (load s.memory x W64)) place ∙ ap G got

-- where a saved register is loaded from
record IsPlaceOf (f offset : ℕ) (a : MemRef) (q r : ℕ) (o : Option ℕ) : Type 0 where
  at : ℕ
  saved : o ≡ Some at
  place : is_place f offset at a ≡ true
  same : q ≡ r

if_place_parts : (f offset : ℕ) (a : MemRef) (q r : ℕ) (o : Option ℕ)
    → if_place f offset a q o ≡ Some r → IsPlaceOf f offset a q r o
if_place_parts f offset a q r None e = absurd cc
if_place_parts f offset a q r (Some n) e = go (is_place f offset n a) refl e
  where
    go : (b : Bool) → is_place f offset n a ≡ b → cond b (Some q) None ≡ Some r
        → IsPlaceOf f offset a q r (Some n)
    go true is e = record { at = n; saved = refl; place = is; same = some_number e }
    go false is e = absurd cc

pub loads : (f offset back a : ℕ) (old : ℕ → ℕ) (ops : List UnwindOperation) (rs : List ℕ)
    (s u : State) (i : Instr) (r : ℕ) → Known f offset old ops → InLoads f offset old back ops rs s
    → restored_by f offset ops i ≡ Some r → effect (with_rip s a) i ≡ Ok u
    → InLoads f offset old back ops (r ∷ rs) u
loads f offset back a old ops rs s u (instrs.Move W64 (places.Register q) (operands.Memory m)) r
    known h e ef =
    let parts = if_place_parts f offset m (number q) r (saved_at (number q) ops) e in
    let n = parts.at in
    let same = parts.same in
    let base = registers s 4 in
    let place = saved_place f offset s.memory old back base base (number q) n ops known.ordered
    known.allowed h.holds.stack parts.saved in
    let kept = saved_register f (number q) ops known.allowed place.saved in
    let d = stack_depth s.memory old back base base ops h.holds.stack in
    let shallow = allocation_depth ops in
    let inside = place.inside in
    let high = known.high in
    let lt : registers s 4 + n < 2 ^ 64 = omega arith in
    let c : Cpu = record { registers = s.cpu.registers; rip = a; flags = s.cpu.flags } in
    let framed : f ≢ 0 → registers s f ≡ registers s 4
    + offset = λ ne. framed_above f offset (registers s) base ops known.ordered (known.frame ne)
    h.holds.framed in
    let at = place_address f offset n c m parts.place framed lt in
    let fits = known.fits (number q) in
    let v = old (number q) % 2 ^ 64 in
    let value : v ≡ old (number q) = omega arith in
    let b = became (record s {
      cpu = record {
        registers = set s.cpu.registers (number q) v;
        rip = a;
        flags = s.cpu.flags;
      };
    }) u
    (effect (with_rip s a) (instrs.Move W64 (places.Register q) (operands.Memory m)))
    (load_effect s a (base + n) (old (number q)) q m at
    (load_at s.memory (base + n) (old (number q)) place.word)) ef in
    let now : (k : ℕ) → registers u k ≡ get_or (set s.cpu.registers (number q) v) k 0 = λ k. ap
    (λ (xs : List ℕ). get_or xs k 0) b.registers in
    let others : (k : ℕ) → k ≢ number q → registers u k ≡ registers s k = λ k ne. now k
    ∙ set_other s.cpu.registers (number q) k v ne in
    let sp : registers u 4 ≡ registers s 4 = others 4 (λ z. kept.1 (sym z)) in
    let here : registers u (number q) ≡ old (number q) = now (number q)
    ∙ set_same s.cpu.registers (number q) v h.length (number_small q) ∙ value in
    record {
      length = ap (λ (xs : List ℕ). length xs) b.registers ∙ length-set s.cpu.registers (number q) v
          ∙ h.length;
      holds = record {
        stack = subst (λ x. Stack u.memory old back x x ops) (sym sp)
            (subst (λ (x : Memory). Stack x old back base base ops) (sym b.memory) h.holds.stack);
        framed = subst (λ x. Framed f offset (registers u) x ops) (sym sp)
            (place.framed (registers s) (registers u) others h.holds.framed);
        others = λ k nv ne z. others k (λ w. false≢true
            (sym z ∙ (ap (λ j. is_saved j ops) w ∙ place.saved))) ∙ h.holds.others k nv ne z;
      };
      restored = λ k w. elim (cases_eq k (number q)) [
        | inl is ↦ subst (λ j. registers u j ≡ old j) (sym is) here
        | inr ne ↦ others k ne ∙ h.restored k (elim (or_cases (eqb r k) (has k rs) w) [
          | inl x ↦ absurd (ne (sym (eqb-true r k x) ∙ sym same))
          | inr x ↦ x
        ])
      ];
    }
loads f offset back a old ops rs s u i r known h e ef = absurd cc
