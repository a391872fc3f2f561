-- The functions of plans are right.
use Rattle.std.proofs.Common.{◌≡◌, ◌≢◌, ℕ, ◌+◌, ◌^◌, ◌<◌, ◌≤◌, Bool, true, false, not, ◌&&◌, eqb, leb, ltb, List, [], ◌∷◌, refl, ap, ◌∙◌, arith}
use Rattle.std.proofs.lemmas.Bool.{and_parts, and_from, or_left, eq-eqb, ne_eqb, lt-ltb, leb-true}
use Rattle.std.proofs.lemmas.Grind.{common_steps}
use Rattle.frame_rules.specs.Words.{Instr, W32, W64, Rax, Rsp, Sub, Relative, number, UnwindOperation, Push, Allocate, SetFrame, Save, SaveVector, MachineFrame, UnwindCode, is_nonvolatile, operations, FetchedInstr, sets_frame, are_apart, allocation, pushed, is_saved, may_save, is_allowed, are_allowed, are_pushes, is_allocated, is_ordered, bytes, does, is_step, allocates, codes_onto, are_sized, IsPrologueStep, ArePrologueSteps, Saved, FramePlan, IsPlan, IsSpelling, saves_then, frame_then, allocation_then, operations_of, stack_place, is_place, allocating, instructions_of, spelled_by, all_encodable, turned, step_of, steps_of, prologue, is_encodable, is_signed}
use Rattle.x64_instr.specs.declared.instruction.Instr.TheVariants as instrs
use Rattle.x64_instr.specs.declared.operand.RegisterOrMemory.TheVariants as places
use Rattle.x64_instr.specs.declared.operand.Operand.TheVariants as operands
use Rattle.x64_instr.specs.Registers.{register}
use Rattle.frame_rules.proofs.Lemmas.{number_register}
use Rattle.frame_rules.proofs.Undoing.{saved_register}
use Rattle.frame_rules.proofs.Order.{pushes_alone}

-- ---- registers by number

pub nonvolatile_small : (r : ℕ) → is_nonvolatile r ≡ true → r < 16
nonvolatile_small r h = grind (arith, common_steps)

pub nonvolatile_number : (r : ℕ) → is_nonvolatile r ≡ true → number (register r) ≡ r
nonvolatile_number r h = number_register r (nonvolatile_small r h)

-- ---- the order of a plan's codes

pushed_pushes : (rs : List ℕ) → are_pushes (pushed rs) ≡ true
pushed_pushes [] = refl
pushed_pushes (r ∷ rs) = pushed_pushes rs

ordered_allocation : (b : Bool) (n : ℕ) (rs : List ℕ)
    → is_allocated (allocation_then b n (pushed rs)) ≡ true
ordered_allocation true n rs = pushed_pushes rs
ordered_allocation false n [] = refl
ordered_allocation false n (r ∷ rs) = pushed_pushes rs

ordered_saves : (ss : List Saved) (f b : Bool) (n : ℕ) (rs : List ℕ)
    → is_ordered (saves_then ss (frame_then f (allocation_then b n (pushed rs)))) ≡ true
ordered_saves (s ∷ ss) f b n rs = ordered_saves ss f b n rs
ordered_saves [] true b n rs = ordered_allocation b n rs
ordered_saves [] false true n rs = pushed_pushes rs
ordered_saves [] false false n [] = refl
ordered_saves [] false false n (r ∷ rs) = pushed_pushes rs

pub ordered_plan : (p : FramePlan) → is_ordered (operations_of p) ≡ true
ordered_plan p = ordered_saves p.saves (not (eqb p.frame 0)) (not (eqb p.size 0)) p.size p.pushes

framed_saves : (ss : List Saved) (xs : List UnwindOperation)
    → sets_frame (saves_then ss (SetFrame ∷ xs)) ≡ true
framed_saves [] xs = refl
framed_saves (s ∷ ss) xs = framed_saves ss xs

pub framed_plan : (p : FramePlan) → p.frame ≢ 0 → sets_frame (operations_of p) ≡ true
framed_plan p ne = ap (λ b. sets_frame (saves_then p.saves
    (frame_then (not b) (allocation_then (not (eqb p.size 0)) p.size (pushed p.pushes)))))
    (ne_eqb p.frame 0 ne) ∙ framed_saves p.saves
    (allocation_then (not (eqb p.size 0)) p.size (pushed p.pushes))

-- ---- the codes of the prologue

turned_twice : (done xs : List UnwindOperation) → turned [] (turned done xs) ≡ turned xs done
turned_twice done [] = refl
turned_twice done (x ∷ xs) = turned_twice (x ∷ done) xs

codes_steps : (spell : Instr → FetchedInstr) (p : FramePlan) (at : ℕ) (done : List UnwindCode)
    (xs : List UnwindOperation) → operations (codes_onto done (steps_of spell p at xs))
    ≡ turned (operations done) xs
codes_steps spell p at done [] = refl
codes_steps spell p at done (x ∷ xs) = codes_steps spell p
    (at + bytes (spelled_by spell (instructions_of p x))) ((step_of spell p at x).code ∷ done) xs

pub codes_plan : (spell : Instr → FetchedInstr) (p : FramePlan)
    → operations (codes_onto [] (prologue spell p)) ≡ operations_of p
codes_plan spell p = codes_steps spell p 0 [] (turned [] (operations_of p))
    ∙ turned_twice [] (operations_of p)

-- ---- the steps of the prologue

abbrev pub Emitted : FramePlan → UnwindOperation → Type 0
Emitted p (Push r) = is_nonvolatile r ≡ true
Emitted p (Allocate n) = n < 2 ^ 31
Emitted p SetFrame = is_nonvolatile p.frame ≡ true
Emitted p (Save r n) = (is_nonvolatile r ≡ true) × (n < 2 ^ 31)
Emitted p x = ⊥

abbrev pub AllEmitted : FramePlan → List UnwindOperation → Type 0
AllEmitted p [] = Unit {0}
AllEmitted p (x ∷ xs) = Emitted p x × AllEmitted p xs

pub all_turned : (p : FramePlan) (done xs : List UnwindOperation) → AllEmitted p done
    → AllEmitted p xs → AllEmitted p (turned done xs)
all_turned p done [] a b = a
all_turned p done (x ∷ xs) a b = all_turned p (x ∷ done) xs (b.0, a) b.1

may_kept : (r : ℕ) (xs : List UnwindOperation) → may_save r xs ≡ true → is_nonvolatile r ≡ true
may_kept r xs h = (and_parts (is_nonvolatile r) (not (eqb r 4) && not (is_saved r xs)) h).0

emitted_pushes : (p : FramePlan) (f : ℕ) (rs : List ℕ) → are_allowed f (pushed rs) ≡ true
    → AllEmitted p (pushed rs)
emitted_pushes p f [] h = tt
emitted_pushes p f (r ∷ rs) h = let a = and_parts (may_save r (pushed rs))
    (are_allowed f (pushed rs)) h in (may_kept r (pushed rs) a.0, emitted_pushes p f rs a.1)

emitted_allocation : (p : FramePlan) (f : ℕ) (b : Bool) (n : ℕ) (rs : List ℕ) → n < 2 ^ 31
    → are_allowed f (allocation_then b n (pushed rs)) ≡ true
    → AllEmitted p (allocation_then b n (pushed rs))
emitted_allocation p f true n rs lt h = (lt, emitted_pushes p f rs h)
emitted_allocation p f false n rs lt h = emitted_pushes p f rs h

emitted_frame : (p : FramePlan) (a b : Bool) (n : ℕ) (rs : List ℕ) → n < 2 ^ 31
    → are_allowed p.frame (frame_then a (allocation_then b n (pushed rs))) ≡ true
    → AllEmitted p (frame_then a (allocation_then b n (pushed rs)))
emitted_frame p true b n rs lt h =
    let xs = allocation_then b n (pushed rs) in
    let a = and_parts (not (eqb p.frame 0) && is_saved p.frame xs) (are_allowed p.frame xs) h in (
      (saved_register p.frame p.frame xs a.1 (and_parts (not (eqb p.frame 0)) (is_saved p.frame xs)
          a.0).1).0,
      emitted_allocation p p.frame b n rs lt a.1,
    )
emitted_frame p false b n rs lt h = emitted_allocation p p.frame b n rs lt h

allocation_size : (b : Bool) (n : ℕ) (rs : List ℕ)
    → allocation (allocation_then b n (pushed rs)) ≤ n
allocation_size true n rs = let z = pushes_alone (pushed rs) (pushed_pushes rs) in omega arith
allocation_size false n rs = let z = pushes_alone (pushed rs) (pushed_pushes rs) in omega arith

frame_size : (a b : Bool) (n : ℕ) (rs : List ℕ)
    → allocation (frame_then a (allocation_then b n (pushed rs))) ≤ n
frame_size true b n rs = let e = allocation_size b n rs in omega arith
frame_size false b n rs = allocation_size b n rs

saves_size : (ss : List Saved) (xs : List UnwindOperation)
    → allocation (saves_then ss xs) ≡ allocation xs
saves_size [] xs = refl
saves_size (s ∷ ss) xs = let e = saves_size ss xs in omega arith

emitted_saves : (p : FramePlan) (ss : List Saved) (a b : Bool) (n : ℕ) (rs : List ℕ) → n < 2 ^ 31
    → are_allowed p.frame (saves_then ss (frame_then a (allocation_then b n (pushed rs)))) ≡ true
    → AllEmitted p (saves_then ss (frame_then a (allocation_then b n (pushed rs))))
emitted_saves p [] a b n rs lt h = emitted_frame p a b n rs lt h
emitted_saves p (s ∷ ss) a b n rs lt h =
    let xs = saves_then ss (frame_then a (allocation_then b n (pushed rs))) in
    let q = and_parts (is_allowed p.frame xs (Save s.register s.offset)) (are_allowed p.frame xs)
    h in
    let m = and_parts (may_save s.register xs)
    (leb (s.offset + 8) (allocation xs) && are_apart s.offset xs) q.0 in
    let le = leb-true (s.offset + 8) (allocation xs)
    (and_parts (leb (s.offset + 8) (allocation xs)) (are_apart s.offset xs) m.1).0 in
    let e = saves_size ss (frame_then a (allocation_then b n (pushed rs))) in
    let k = frame_size a b n rs in (
      (may_kept s.register xs m.0, let z : s.offset < 2 ^ 31 = omega arith in z),
      emitted_saves p ss a b n rs lt q.1,
    )

pub emitted_plan : (p : FramePlan) → IsPlan p → AllEmitted p (operations_of p)
emitted_plan p h = emitted_saves p p.saves (not (eqb p.frame 0)) (not (eqb p.size 0)) p.size
    p.pushes h.size h.allowed

-- ---- each instruction has a spelling

pub small_signed : (n : ℕ) → n < 2 ^ 31 → is_signed W32 W64 n ≡ true
small_signed n lt = let e : ltb n (2 ^ 31) ≡ true = lt-ltb n (2 ^ 31) lt in rw e refl

allocating_encodable : (p : FramePlan) (n : ℕ) (b : Bool) → is_signed W32 W64 p.probe ≡ true
    → n < 2 ^ 31 → all_encodable (allocating p.probe n b) ≡ true
allocating_encodable p n true probe lt = and_from (is_signed W32 W64 n) true (small_signed n lt)
    refl
allocating_encodable p n false probe lt = and_from (ltb n (2 ^ 32))
    (is_signed W32 W64 p.probe && true) (lt-ltb n (2 ^ 32) (omega arith))
    (and_from (is_signed W32 W64 p.probe) true probe refl)

pub step_encodable : (p : FramePlan) (x : UnwindOperation) → IsPlan p → Emitted p x
    → all_encodable (instructions_of p x) ≡ true
step_encodable p (Push r) h e = refl
step_encodable p (Allocate n) h e = allocating_encodable p n (leb n 4096) h.probe e
step_encodable p SetFrame h e = let d = h.distance in
    and_from (is_signed W32 W64 p.distance) true (small_signed p.distance (omega arith)) refl
step_encodable p (Save r n) h e = and_from (is_signed W32 W64 n) true (small_signed n e.1) refl
step_encodable p (SaveVector r n) h e = absurd e
step_encodable p (MachineFrame n) h e = absurd e

module _ (spell : Instr → FetchedInstr) (sp : IsSpelling spell) where
  pub all_sized : (is : List Instr) → all_encodable is ≡ true
      → are_sized (spelled_by spell is) ≡ true
  all_sized [] h = refl
  all_sized (i ∷ is) h =
      let a = and_parts (is_encodable i) (all_encodable is) h in
      and_from (ltb 0 (spell i).size) (are_sized (spelled_by spell is))
      (lt-ltb 0 (spell i).size (sp.sized i a.0)) (all_sized is a.1)

  allocated : (f offset probe n : ℕ) (b : Bool) → n < 2 ^ 32
      → is_step f offset (Allocate n) (spelled_by spell (allocating probe n b)) ≡ true
  allocated f offset probe n true lt = ap (does f offset (Allocate n))
      (sp.instr (instrs.Arithmetic Sub W64 (places.Register Rsp) (operands.Immediate n)))
      ∙ eq-eqb n n refl
  allocated f offset probe n false lt =
      let x = instrs.Move W32 (places.Register Rax) (operands.Immediate n) in
      let y = instrs.Call (Relative probe) in
      let z = instrs.Arithmetic Sub W64 (places.Register Rsp) (operands.Register Rax) in
      ap (λ (i : Instr). allocates (Allocate n) i (spell y).instr (spell z).instr) (sp.instr x)
      ∙ ap (λ (i : Instr). allocates (Allocate n) x i (spell z).instr) (sp.instr y)
      ∙ ap (λ (i : Instr). allocates (Allocate n) x y i) (sp.instr z)
      ∙ and_from (eqb n n && ltb n (2 ^ 32)) true
      (and_from (eqb n n) (ltb n (2 ^ 32)) (eq-eqb n n refl) (lt-ltb n (2 ^ 32) lt)) refl

  one_step : (p : FramePlan) (x : UnwindOperation) → Emitted p x
      → is_step p.frame p.distance x (spelled_by spell (instructions_of p x)) ≡ true
  one_step p (Push r) h = ap (does p.frame p.distance (Push r))
      (sp.instr (instrs.Push (register r))) ∙ eq-eqb (number (register r)) r
      (nonvolatile_number r h)
  one_step p (Allocate n) h = allocated p.frame p.distance p.probe n (leb n 4096) (omega arith)
  one_step p SetFrame h = ap (does p.frame p.distance SetFrame)
      (sp.instr (instrs.LoadAddress W64 (register p.frame) (stack_place p.distance)))
      ∙ and_from (eqb (number (register p.frame)) p.frame) (true && eqb p.distance p.distance)
      (eq-eqb (number (register p.frame)) p.frame (nonvolatile_number p.frame h))
      (eq-eqb p.distance p.distance refl)
  one_step p (Save r n) h = ap (does p.frame p.distance (Save r n))
      (sp.instr (instrs.Move W64 (places.Memory (stack_place n)) (operands.Register (register r))))
      ∙ and_from (eqb (number (register r)) r) (is_place p.frame p.distance n (stack_place n))
      (eq-eqb (number (register r)) r (nonvolatile_number r h.0))
      (or_left (true && eqb n n) _ (eq-eqb n n refl))
  one_step p (SaveVector r n) h = absurd h
  one_step p (MachineFrame n) h = absurd h

  all_steps : (p : FramePlan) (at : ℕ) (xs : List UnwindOperation) → IsPlan p → AllEmitted p xs
      → ArePrologueSteps p.frame p.distance at (steps_of spell p at xs)
  all_steps p at [] k h = tt
  all_steps p at (x ∷ xs) k h =
      let first : IsPrologueStep p.frame p.distance at
      (step_of spell p at x) = record {
        does = one_step p x h.0;
        sized = all_sized (instructions_of p x) (step_encodable p x k h.0);
        ends = refl;
      } in
      (first, all_steps p (at + bytes (spelled_by spell (instructions_of p x))) xs k h.1)

  pub are_steps : (p : FramePlan) → IsPlan p → ArePrologueSteps p.frame p.distance 0
      (prologue spell p)
  are_steps p h = all_steps p 0 (turned [] (operations_of p)) h
      (all_turned p [] (operations_of p) tt (emitted_plan p h))
