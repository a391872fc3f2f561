-- The states of a prologue.
use Rattle.std.proofs.Common.{◌≡◌, ℕ, ◌+◌, ◌-◌, ◌%◌, ◌^◌, ◌<◌, ◌≤◌, true, false, not, ◌&&◌, eqb, leb, ltb, List, [], ◌∷◌, length, get_or, set, Ok, refl, sym, ap, subst, ◌∙◌, arith, inl, length-set}
use Rattle.std.proofs.lemmas.Bool.{false≢true, and_parts, eqb-true, leb-true, ltb-true, lt-leb, le-leb}
use Rattle.frame_rules.specs.Words.{W32, W64, Memory, Rax, Rsp, Instr, number, subtracted, State, with_rip, effect, UnwindOperation, Push, Allocate, SetFrame, Save, SaveVector, MachineFrame, UnwindCode, is_nonvolatile, operations, FetchedInstr, run_or, run_by, depth, allocation, may_save, is_allowed, are_allowed, is_saved, are_apart, are_pushes, Stack, Framed, bytes, does, is_stack, is_place, sets_size, is_call, subtracts, allocates, is_step, PrologueStep, codes_onto, are_sized, ArePrologueSteps, registers, Called, RunsOne, IsEntry}
use Rattle.x64_instr.specs.declared.operand.RegisterOrMemory.TheVariants as places
use Rattle.x64_instr.specs.declared.operand.Operand.TheVariants as operands
use Rattle.x64_instr.specs.declared.instruction.Operation.TheVariants as computes
use Rattle.x64_instr.specs.declared.instruction.Instr.TheVariants as instrs
use Rattle.frame_rules.proofs.Undoing.{stack_depth, saved_register, framed_saved}
use Rattle.frame_rules.proofs.Order.{Ordered, push, allocate, frame, save, ordered_rest, Follows, AllFollow}
use Rattle.frame_rules.proofs.Words.{moved_words}
use Rattle.frame_rules.proofs.Steps.{Running, became, set_same, set_other, fallen, difference, pushed_step, allocated_step, framed_step, saved_step}

-- ---- instructions that leave the frame

-- the nonvolatile registers and the words are what they were
pub carried : (f offset back : ℕ) (e s u : State) (ops : List UnwindOperation)
    → are_allowed f ops ≡ true → Running f offset e back ops s → length u.cpu.registers ≡ 16
    → u.memory.protection ≡ s.memory.protection
    → Stack u.memory (registers e) back (registers s 4) (registers s 4) ops
    → ((q : ℕ) → is_nonvolatile q ≡ true → registers u q ≡ registers s q)
    → Running f offset e back ops u
carried f offset back e s u ops allowed run long protection stack same =
    let sp = same 4 refl in
    let framed = framed_saved f offset (registers s) (registers u) (registers s 4) ops allowed
    (λ y. sym (same f (saved_register f f ops allowed y).0)) run.holds.framed in
    record {
      length = long;
      protection = protection ∙ run.protection;
      holds = record {
        stack = subst (λ x. Stack u.memory (registers e) back x x ops) (sym sp) stack;
        framed = subst (λ x. Framed f offset (registers u) x ops) (sym sp) framed;
        others = λ q nv ne z. same q nv ∙ run.holds.others q nv ne z;
      };
    }

-- ---- a large allocation

pub turn_plain : (s u : State) (x : FetchedInstr) → is_call x.instr ≡ false
    → RunsOne s x u (is_call x.instr) → effect (with_rip s ((s.cpu.rip + x.size) % 2 ^ 64)) x.instr
    ≡ Ok u
turn_plain s u x e t = subst (λ b. RunsOne s x u b) e t

pub turn_call : (s u : State) (x : FetchedInstr) → is_call x.instr ≡ true
    → RunsOne s x u (is_call x.instr) → Called s u
turn_call s u x e t = subst (λ b. RunsOne s x u b) e t

pub record Sized (k : ℕ) (s u : State) : Type 0 where
  pub length : length u.cpu.registers ≡ 16
  pub memory : u.memory ≡ s.memory
  pub rax : registers u 0 ≡ k
  pub kept : (q : ℕ) → is_nonvolatile q ≡ true → registers u q ≡ registers s q

pub sized : (s u : State) (a k : ℕ) (i : Instr) → length s.cpu.registers ≡ 16 → sets_size k i ≡ true
    → effect (with_rip s a) i ≡ Ok u → Sized k s u
sized s u a k (instrs.Move W32 (places.Register Rax) (operands.Immediate v)) n e ef =
    let parts = and_parts (eqb v k) (ltb k (2 ^ 32)) e in
    let same : v ≡ k = eqb-true v k parts.0 in
    let small = ltb-true k (2 ^ 32) parts.1 in
    let w = v % 2 ^ 32 % 2 ^ 32 in
    let b = became (record s {
      cpu = record {
        registers = set s.cpu.registers 0 w;
        rip = a;
        flags = s.cpu.flags;
      };
    }) u
    (effect (with_rip s a) (instrs.Move W32 (places.Register Rax) (operands.Immediate v))) refl
    ef in
    let now : (q : ℕ) → registers u q ≡ get_or (set s.cpu.registers 0 w) q 0 = λ q. ap
    (λ (xs : List ℕ). get_or xs q 0) b.registers in
    record {
      length = ap (λ (xs : List ℕ). length xs) b.registers ∙ length-set s.cpu.registers 0 w ∙ n;
      memory = b.memory;
      rax = now 0 ∙ set_same s.cpu.registers 0 w n (omega arith)
          ∙ (let z : w ≡ k = omega arith in z);
      kept = λ q nv. now q ∙ set_other s.cpu.registers 0 q w
          (λ z. false≢true (ap is_nonvolatile (sym z) ∙ nv));
    }
sized s u a k (instrs.Move W64 (places.Register Rax) (operands.Immediate v)) n e ef =
    let parts = and_parts (eqb v k) (ltb k (2 ^ 32)) e in
    let same : v ≡ k = eqb-true v k parts.0 in
    let small = ltb-true k (2 ^ 32) parts.1 in
    let w = v % 2 ^ 64 % 2 ^ 64 in
    let b = became (record s {
      cpu = record {
        registers = set s.cpu.registers 0 w;
        rip = a;
        flags = s.cpu.flags;
      };
    }) u
    (effect (with_rip s a) (instrs.Move W64 (places.Register Rax) (operands.Immediate v))) refl
    ef in
    let now : (q : ℕ) → registers u q ≡ get_or (set s.cpu.registers 0 w) q 0 = λ q. ap
    (λ (xs : List ℕ). get_or xs q 0) b.registers in
    record {
      length = ap (λ (xs : List ℕ). length xs) b.registers ∙ length-set s.cpu.registers 0 w ∙ n;
      memory = b.memory;
      rax = now 0 ∙ set_same s.cpu.registers 0 w n (omega arith)
          ∙ (let z : w ≡ k = omega arith in z);
      kept = λ q nv. now q ∙ set_other s.cpu.registers 0 q w
          (λ z. false≢true (ap is_nonvolatile (sym z) ∙ nv));
    }
sized s u a k i n e ef = absurd (false≢true e)

pub size_plain : (k : ℕ) (i : Instr) → sets_size k i ≡ true → is_call i ≡ false
size_plain k (instrs.Move w to from) e = refl
size_plain k i e = absurd (false≢true e)

pub subtracts_plain : (i : Instr) → subtracts i ≡ true → is_call i ≡ false
subtracts_plain (instrs.Arithmetic o w to from) e = refl
subtracts_plain i e = absurd (false≢true e)

pub subtracted_step : (f offset back n a k : ℕ) (e s u : State) (ops : List UnwindOperation)
    (i : Instr) → IsEntry n e → depth (Allocate k ∷ ops) ≤ n → are_pushes ops ≡ true
    → subtracts i ≡ true → registers s 0 ≡ k
    → Running f offset e back ops s → effect (with_rip s a) i ≡ Ok u
    → Running f offset e back (Allocate k ∷ ops) u
subtracted_step f offset back n a k e s u ops
    (instrs.Arithmetic computes.Sub W64 (places.Register Rsp) (operands.Register Rax)) entry deep p
    is rax run ef =
    let d = stack_depth s.memory (registers e) back (registers s 4) (registers s 4) ops
    run.holds.stack in
    let low = entry.low in
    let high = entry.high in
    let x = subtracted W64 (registers s 4 % 2 ^ 64) (registers s 0 % 2 ^ 64) in
    let v = x.0 % 2 ^ 64 in
    let b = became (record s {
      cpu = record {
        registers = set s.cpu.registers 4 v;
        rip = a;
        flags = x.1;
      };
    }) u (effect (with_rip s a)
    (instrs.Arithmetic computes.Sub W64 (places.Register Rsp) (operands.Register Rax))) refl ef in
    let now : (q : ℕ) → registers u q ≡ get_or (set s.cpu.registers 4 v) q 0 = λ q. ap
    (λ (xs : List ℕ). get_or xs q 0) b.registers in
    let sp : registers u 4 ≡ registers s 4 - registers s 0 = now 4
    ∙ set_same s.cpu.registers 4 v run.length (omega arith)
    ∙ difference (registers s 4) (registers s 0) (omega arith) (omega arith) in
    fallen f offset back n k e s u ops entry deep p run
    (ap (λ (xs : List ℕ). length xs) b.registers ∙ length-set s.cpu.registers 4 v ∙ run.length)
    b.memory (omega arith) (λ q nv ne. now q ∙ set_other s.cpu.registers 4 q v ne)
subtracted_step f offset back n a k e s u ops i entry deep p is rax run ef = absurd (false≢true is)

-- the frame while the size is set, and while it is probed
pub sized_running : (f offset back k : ℕ) (e s u : State) (ops : List UnwindOperation)
    → are_allowed f ops ≡ true → Running f offset e back ops s → Sized k s u
    → Running f offset e back ops u
sized_running f offset back k e s u ops allowed run z = carried f offset back e s u ops allowed run
    z.length (ap (λ (x : Memory). x.protection) z.memory)
    (subst (λ (x : Memory). Stack x (registers e) back (registers s 4) (registers s 4) ops)
    (sym z.memory) run.holds.stack) z.kept

pub called_running : (f offset back : ℕ) (e s u : State) (ops : List UnwindOperation)
    → are_allowed f ops ≡ true → Running f offset e back ops s → Called s u
    → Running f offset e back ops u
called_running f offset back e s u ops allowed run z = carried f offset back e s u ops allowed run
    z.length z.protection (moved_words s.memory u.memory (registers e) back (registers s 4)
    (registers s 4) ops z.protection z.byte (omega arith) run.holds.stack)
    (λ q nv. z.kept q (inl nv))

-- ---- one instruction of a step

pub does_plain : (f offset : ℕ) (op : UnwindOperation) (i : Instr) → does f offset op i ≡ true
    → is_call i ≡ false
does_plain f offset (Push r) (instrs.Call to) e = absurd (false≢true e)
does_plain f offset (Allocate r) (instrs.Call to) e = absurd (false≢true e)
does_plain f offset SetFrame (instrs.Call to) e = absurd (false≢true e)
does_plain f offset (Save r k) (instrs.Call to) e = absurd (false≢true e)
does_plain f offset (SaveVector r k) (instrs.Call to) e = absurd (false≢true e)
does_plain f offset (MachineFrame k) (instrs.Call to) e = absurd (false≢true e)
does_plain f offset op i e = refl

pub does_step : (f offset back n a : ℕ) (e s u : State) (op : UnwindOperation)
    (ops : List UnwindOperation) (i : Instr) → IsEntry n e → offset < 2 ^ 16 → depth (op ∷ ops) ≤ n
    → is_allowed f ops op ≡ true → are_allowed f ops ≡ true → Ordered (op ∷ ops)
    → Follows f op ops → does f offset op i ≡ true
    → Running f offset e back ops s → effect (with_rip s a) i ≡ Ok u
    → Running f offset e back (op ∷ ops) u
does_step f offset back n a e s u (Push r) ops (instrs.Push q) entry small deep is allowed
    (push p o) fo d run ef =
    let same : number q ≡ r = eqb-true (number q) r d in
    subst (λ x. Running f offset e back (Push x ∷ ops) u) same
    (pushed_step f offset back n a e s u ops q entry deep (ap (λ x. may_save x ops) same ∙ is) p
    run ef)
does_step f offset back n a e s u (Allocate k) ops
    (instrs.Arithmetic computes.Sub W64 (places.Register Rsp) (operands.Immediate v)) entry small
    deep is allowed (allocate p o) fo d run ef =
    let same : v ≡ k = eqb-true v k d in
    subst (λ x. Running f offset e back (Allocate x ∷ ops) u) same
    (allocated_step f offset back n a v e s u ops entry (omega arith) p run ef)
does_step f offset back n a e s u SetFrame ops (instrs.LoadAddress W64 to m) entry small deep is
    allowed (frame t p o) fo d run ef =
    let parts = and_parts (eqb (number to) f) (is_stack offset m) d in
    framed_step f offset back n a e s u ops to m entry small (eqb-true (number to) f parts.0)
    parts.1 (and_parts (not (eqb f 0)) (is_saved f ops) is).1 allowed p run ef
does_step f offset back n a e s u (Save r k) ops
    (instrs.Move W64 (places.Memory m) (operands.Register q)) entry small deep is allowed (save o)
    fo d run ef =
    let parts = and_parts (eqb (number q) r) (is_place f offset k m) d in
    let same : number q ≡ r = eqb-true (number q) r parts.0 in
    let may = and_parts (may_save r ops) (leb (k + 8) (allocation ops) && are_apart k ops) is in
    let fits = and_parts (leb (k + 8) (allocation ops)) (are_apart k ops) may.1 in
    subst (λ x. Running f offset e back (Save x k ∷ ops) u) same
    (saved_step f offset back n a k e s u ops q m entry (omega arith) parts.1 fo
    (ap (λ x. may_save x ops) same ∙ may.0) (leb-true (k + 8) (allocation ops) fits.0) fits.1 o
    run ef)
does_step f offset back n a e s u op ops i entry small deep is allowed order fo d run ef = absurd
    (false≢true d)

-- ---- sizes

pub first_positive : (x : FetchedInstr) (xs : List FetchedInstr) → are_sized (x ∷ xs) ≡ true
    → 0 < x.size
first_positive x xs e = ltb-true 0 x.size (and_parts (ltb 0 x.size) (are_sized xs) e).0

pub positive : (f offset : ℕ) (op : UnwindOperation) (xs : List FetchedInstr)
    → is_step f offset op xs ≡ true → are_sized xs ≡ true → 0 < bytes xs
positive f offset op [] s e = absurd (false≢true s)
positive f offset op (x ∷ xs) s e = let h = first_positive x xs e in omega arith

-- ---- a large allocation

-- how much three instructions allocate, and what each of them does
pub record IsLarge (op : UnwindOperation) (x y z : Instr) : Type 0 where
  pub size : ℕ
  pub is : op ≡ Allocate size
  pub sets : sets_size size x ≡ true
  pub calls : is_call y ≡ true
  pub takes : subtracts z ≡ true

pub large_of : (op : UnwindOperation) (x y z : Instr) → allocates op x y z ≡ true → IsLarge op x y z
large_of (Allocate k) x y z h =
    let a = and_parts (sets_size k x) (is_call y && subtracts z) h in
    let b = and_parts (is_call y) (subtracts z) a.1 in
    record { size = k; is = refl; sets = a.0; calls = b.0; takes = b.1 }
large_of (Push r) x y z h = absurd (false≢true h)
large_of SetFrame x y z h = absurd (false≢true h)
large_of (Save r k) x y z h = absurd (false≢true h)
large_of (SaveVector r k) x y z h = absurd (false≢true h)
large_of (MachineFrame k) x y z h = absurd (false≢true h)

-- ---- lists of codes that continue

pub record Good (f n : ℕ) (ops : List UnwindOperation) : Type 0 where
  pub ordered : Ordered ops
  pub allowed : are_allowed f ops ≡ true
  pub deep : depth ops ≤ n

pub good_rest : (f n : ℕ) (x : UnwindOperation) (xs : List UnwindOperation) → Good f n (x ∷ xs)
    → Good f n xs
good_rest f n x xs g = record {
  ordered = ordered_rest x xs g.ordered;
  allowed = (and_parts (is_allowed f xs x) (are_allowed f xs) g.allowed).1;
  deep = let d = g.deep in omega arith;
}

pub good_done : (f n : ℕ) (done : List UnwindCode) (ss : List PrologueStep)
    → Good f n (operations (codes_onto done ss)) → Good f n (operations done)
good_done f n done [] g = g
good_done f n done (s ∷ ss) g = good_rest f n s.code.operation (operations done)
    (good_done f n (s.code ∷ done) ss g)

pub follow_done : (f : ℕ) (done : List UnwindCode) (ss : List PrologueStep)
    → AllFollow f (operations (codes_onto done ss)) → AllFollow f (operations done)
follow_done f done [] g = g
follow_done f done (s ∷ ss) g = (follow_done f (s.code ∷ done) ss g).1

-- ---- the codes that have been run

abbrev pub AtMost : ℕ → List UnwindCode → Type 0
AtMost d [] = Unit {0}
AtMost d (c ∷ cs) = c.offset ≤ d

pub run_done : (d : ℕ) (done : List UnwindCode) → AtMost d done → run_by d done ≡ done
run_done d [] h = refl
run_done d (c ∷ cs) h = ap (run_or (c ∷ cs) (run_by d cs)) (le-leb c.offset d h)

-- the codes of instructions that end later haven't been
pub skips : (f offset at d : ℕ) (done : List UnwindCode) (ss : List PrologueStep) → d ≤ at
    → ArePrologueSteps f offset at ss → run_by d (codes_onto done ss) ≡ run_by d done
skips f offset at d done [] le h = refl
skips f offset at d done (s ∷ ss) le h =
    let pos = positive f offset s.code.operation s.items h.0.does h.0.sized in
    let end = h.0.ends in
    skips f offset (at + bytes s.items) d (s.code ∷ done) ss (omega arith) h.1
    ∙ ap (run_or (s.code ∷ done) (run_by d done)) (lt-leb s.code.offset d (omega arith))

pub skips_first : (f offset at d : ℕ) (done : List UnwindCode) (s : PrologueStep)
    (ss : List PrologueStep) → d < at + bytes s.items → ArePrologueSteps f offset at (s ∷ ss)
    → run_by d (codes_onto done (s ∷ ss)) ≡ run_by d done
skips_first f offset at d done s ss lt h =
    let end = h.0.ends in
    skips f offset (at + bytes s.items) d (s.code ∷ done) ss (omega arith) h.1
    ∙ ap (run_or (s.code ∷ done) (run_by d done)) (lt-leb s.code.offset d (omega arith))

-- ---- the states on the way

pub cons_head : {A : Type 0} {x y : A} {xs ys : List A} → x ∷ xs ≡ y ∷ ys → x ≡ y
cons_head e = cc

pub cons_tail : {A : Type 0} {x y : A} {xs ys : List A} → x ∷ xs ≡ y ∷ ys → xs ≡ ys
cons_tail e = cc

pub same_turn : (s u : State) (x y : FetchedInstr) → x ≡ y → RunsOne s y u (is_call y.instr)
    → RunsOne s x u (is_call x.instr)
same_turn s u x y e t = subst (λ (w : FetchedInstr). RunsOne s w u (is_call w.instr)) (sym e) t
