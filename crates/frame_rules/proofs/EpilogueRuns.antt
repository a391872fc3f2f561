-- The states of an epilogue.
use Rattle.std.proofs.Common.{◌≡◌, ◌≢◌, ℕ, ◌+◌, ◌%◌, ◌^◌, ◌<◌, Bool, true, false, not, ◌&&◌, ◌||◌, eqb, List, [], ◌∷◌, length, get_or, set, Option, Some, None, Ok, refl, sym, ap, subst, ◌∙◌, arith, inl, inr, length-set}
use Rattle.std.specs.Prelude.{◌⊎◌}
use Rattle.std.proofs.lemmas.Bool.{cases_eq, false≢true, and_parts, or_parts, or_cases, eqb-true, eqb-false, ne_eqb, not-true}
use Rattle.frame_rules.specs.Words.{W64, Memory, Reg, Rsp, Add, Instr, number, Cpu, added, ◌>>=◌, State, Answer, with_register, with_rip, load, effect, address_of, UnwindOperation, Push, Allocate, SetFrame, Save, SaveVector, MachineFrame, is_nonvolatile, Role, Opens, Restores, Ends, Other, FetchedInstr, role_of, is_of, allocation, pushes, pushed, is_saved, may_save, are_allowed, Stack, is_pop, gives_back, is_call, written, has, may_write_all, restored_by, with_restored, are_restored, Mode, Body, Leaving, is_ends, leaving, from_body, and_then, following, registers, RunsOne, RunsThrough, is_some, is_leaving, leaves, all_leave}
use Rattle.x64_instr.specs.declared.operand.RegisterOrMemory.TheVariants as places
use Rattle.x64_instr.specs.declared.operand.Operand.TheVariants as operands
use Rattle.x64_instr.specs.declared.instruction.Instr.TheVariants as instrs
use Rattle.frame_rules.specs.Body.{next}
use Rattle.frame_rules.proofs.Undoing.{stack_depth, others_after}
use Rattle.frame_rules.proofs.Order.{framed_above, stack_opened, pushes_allowed}
use Rattle.frame_rules.proofs.Lemmas.{number_small}
use Rattle.frame_rules.proofs.Steps.{Became, became, set_same, set_other, frame_address}
use Rattle.frame_rules.proofs.Bodies.{only, pop_role}
use Rattle.frame_rules.proofs.Tails.{some_same}
use Rattle.frame_rules.proofs.Prologues.{turn_plain}
use Rattle.frame_rules.proofs.Leaving.{InLoads, InPops, Known, load_at, loads}

-- ---- an allocation given back

-- a register that isn't pushed isn't saved, or is loaded
pub pushed_or_loaded : (q : ℕ) (rs : List ℕ) (ops : List UnwindOperation)
    → are_restored rs ops ≡ true → is_saved q (pushed (pushes ops)) ≡ false
    → (is_saved q ops ≡ false) ⊎ (has q rs ≡ true)
pushed_or_loaded q rs [] h s = inl refl
pushed_or_loaded q rs (Push r ∷ ops) h s =
    let p = or_parts (eqb r q) (is_saved q (pushed (pushes ops))) s in
    elim (pushed_or_loaded q rs ops h p.1) [
      | inl x ↦ inl (ap (λ b. b || is_saved q ops) p.0 ∙ x)
      | inr x ↦ inr x
    ]
pushed_or_loaded q rs (Allocate k ∷ ops) h s = pushed_or_loaded q rs ops h s
pushed_or_loaded q rs (SetFrame ∷ ops) h s = pushed_or_loaded q rs ops h s
pushed_or_loaded q rs (Save r k ∷ ops) h s =
    let p = and_parts (has r rs) (are_restored rs ops) h in
    elim (cases_eq r q) [
      | inl same ↦ inr (ap (λ j. has j rs) (sym same) ∙ p.0)
      | inr ne ↦ elim (pushed_or_loaded q rs ops p.1 s) [
        | inl x ↦ inl (ap (λ b. b || is_saved q ops) (ne_eqb r q ne) ∙ x)
        | inr x ↦ inr x
      ]
    ]
pushed_or_loaded q rs (SaveVector r k ∷ ops) h s = pushed_or_loaded q rs ops h s
pushed_or_loaded q rs (MachineFrame k ∷ ops) h s = pushed_or_loaded q rs ops h s

-- the loads done, with RSP where the pushes begin
pub opened : (f offset back : ℕ) (old : ℕ → ℕ) (ops : List UnwindOperation) (rs : List ℕ)
    (s u : State) → Known f offset old ops → InLoads f offset old back ops rs s
    → are_restored rs ops ≡ true
    → length u.cpu.registers ≡ 16 → u.memory ≡ s.memory
    → registers u 4 ≡ registers s 4 + allocation ops
    → ((q : ℕ) → q ≢ 4 → registers u q ≡ registers s q) → InPops f old back (pushes ops) u
opened f offset back old ops rs s u known h done long same sp others = record {
  length = long;
  base = registers s 4;
  stack = subst (λ x. Stack u.memory old back (registers s 4) x (pushed (pushes ops))) (sym sp)
      (subst (λ (x : Memory). Stack x old back (registers s 4) (registers s 4 + allocation ops)
      (pushed (pushes ops))) (sym same) (stack_opened s.memory old back (registers s 4)
      (registers s 4) ops known.ordered h.holds.stack));
  others = λ q nv ne z. others q ne ∙ elim (pushed_or_loaded q rs ops done z) [
    | inl x ↦ h.holds.others q nv ne x
    | inr x ↦ h.restored q x
  ];
  allowed = pushes_allowed f ops known.ordered known.allowed;
}

sum_is : (x v : ℕ) → x + v < 2 ^ 64 → (added W64 (x % 2 ^ 64) (v % 2 ^ 64)).0 % 2 ^ 64 ≡ x + v
unfolding added
sum_is x v lt = omega arith

opens_effect : (s u : State) (v r : ℕ) → length s.cpu.registers ≡ 16
    → Became u (set s.cpu.registers 4 v) s.memory → v ≡ registers s 4 + r
    → (length u.cpu.registers ≡ 16) × (registers u 4 ≡ registers s 4 + r)
    × ((q : ℕ) → q ≢ 4 → registers u q ≡ registers s q)
opens_effect s u v r n b e =
    let now : (q : ℕ) → registers u q ≡ get_or (set s.cpu.registers 4 v) q 0 = λ q. ap
    (λ (xs : List ℕ). get_or xs q 0) b.registers in (
      ap (λ (xs : List ℕ). length xs) b.registers ∙ length-set s.cpu.registers 4 v ∙ n,
      now 4
          ∙ set_same s.cpu.registers 4 v n (omega arith) ∙ e,
      λ q ne. now q
          ∙ set_other s.cpu.registers 4 q v ne,
    )

pub opens : (f offset back a : ℕ) (old : ℕ → ℕ) (ops : List UnwindOperation) (rs : List ℕ)
    (s u : State) (i : Instr) → Known f offset old ops → InLoads f offset old back ops rs s
    → are_restored rs ops ≡ true → gives_back f offset (allocation ops) i ≡ true
    → effect (with_rip s a) i ≡ Ok u → InPops f old back (pushes ops) u
opens f offset back a old ops rs s u (instrs.Arithmetic Add W64 (places.Register Rsp)
    (operands.Immediate v)) known h done e ef =
    let same : v ≡ allocation ops = eqb-true v (allocation ops) e in
    let d = stack_depth s.memory old back (registers s 4) (registers s 4 + allocation ops)
    (pushed (pushes ops)) (stack_opened s.memory old back (registers s 4) (registers s 4) ops
    known.ordered h.holds.stack) in
    let high = known.high in
    let x = added W64 (registers s 4 % 2 ^ 64) (v % 2 ^ 64) in
    let w = x.0 % 2 ^ 64 in
    let b = became (record s {
      cpu = record {
        registers = set s.cpu.registers 4 w;
        rip = a;
        flags = x.1;
      };
    }) u (effect (with_rip s a)
    (instrs.Arithmetic Add W64 (places.Register Rsp) (operands.Immediate v))) refl ef in
    let o = opens_effect s u w (allocation ops) h.length b
    (sum_is (registers s 4) v (omega arith) ∙ ap (λ k. registers s 4 + k) same) in
    opened f offset back old ops rs s u known h done o.0 b.memory o.1 o.2
opens f offset back a old ops rs s u (instrs.LoadAddress W64 Rsp m) known h done e ef =
    let parts = and_parts (is_of f m.base m.index)
    (eqb ((offset + m.displacement) % 2 ^ 64) (allocation ops)) e in
    let d = stack_depth s.memory old back (registers s 4) (registers s 4 + allocation ops)
    (pushed (pushes ops)) (stack_opened s.memory old back (registers s 4) (registers s 4) ops
    known.ordered h.holds.stack) in
    let high = known.high in
    let c : Cpu = record { registers = s.cpu.registers; rip = a; flags = s.cpu.flags } in
    let framed : f ≢ 0 → registers s f ≡ registers s 4
    + offset = λ ne. framed_above f offset (registers s) (registers s 4) ops known.ordered
    (known.frame ne) h.holds.framed in
    let lt : registers s 4 + allocation ops < 2 ^ 64 = omega arith in
    let at = frame_address f offset (allocation ops) c m parts.0
    (eqb-true ((offset + m.displacement) % 2 ^ 64) (allocation ops) parts.1) framed lt in
    let w = address_of c m % 2 ^ 64 in
    let b = became (record s {
      cpu = record {
        registers = set s.cpu.registers 4 w;
        rip = a;
        flags = s.cpu.flags;
      };
    }) u
    (effect (with_rip s a) (instrs.LoadAddress W64 Rsp m)) refl ef in
    let o = opens_effect s u w (allocation ops) h.length b
    (let z : w ≡ registers s 4 + allocation ops = omega arith in z) in
    opened f offset back old ops rs s u known h done o.0 b.memory o.1 o.2
opens f offset back a old ops rs s u i known h done e ef = absurd (false≢true e)

-- ---- a pop

pub pop_effect : (s : State) (a v : ℕ) (q : Reg) → load s.memory (registers s 4) W64 ≡ Ok v
    → effect (with_rip s a) (instrs.Pop q) ≡ Ok
    (record s {
      cpu = record {
        registers = set
            (set s.cpu.registers 4 ((registers s 4 + 8) % 2 ^ 64 % 2 ^ 64)) (number q) (v % 2 ^ 64);
        rip = a;
        flags = s.cpu.flags;
      };
    })
pop_effect s a v q got =
    let lower : State = record s {
      cpu = record {
        registers = set s.cpu.registers 4
            ((registers s 4 + 8) % 2 ^ 64 % 2 ^ 64);
        rip = a;
        flags = s.cpu.flags;
      };
    } in
    let G : Answer ℕ → Answer State = λ r. ◌>>=◌ {A = ℕ × State} (r >>= λ v. Ok (v, lower))
    (λ x. Ok (record x.1 { cpu = with_register W64 x.1.cpu q x.0 })) in
    ap G got

pub popped : (f back a : ℕ) (old : ℕ → ℕ) (r : ℕ) (rs : List ℕ) (s u : State) (i : Instr)
    → old 4 < 2 ^ 47 → ((k : ℕ) → old k < 2 ^ 64) → InPops f old back (r ∷ rs) s → is_pop r i ≡ true
    → effect (with_rip s a) i ≡ Ok u → InPops f old back rs u
popped f back a old r rs s u (instrs.Pop q) high fits h e ef =
    let same : number q ≡ r = eqb-true (number q) r e in
    let parts = and_parts (may_save r (pushed rs)) (are_allowed f (pushed rs)) h.allowed in
    let once = and_parts (is_nonvolatile r) (not (eqb r 4) && not (is_saved r (pushed rs)))
    parts.0 in
    let four : r ≢ 4 = eqb-false r 4 (not-true (eqb r 4)
    (and_parts (not (eqb r 4)) (not (is_saved r (pushed rs))) once.1).0) in
    let d = stack_depth s.memory old back h.base (registers s 4 + 8) (pushed rs) h.stack.1 in
    let w = (registers s 4 + 8) % 2 ^ 64 % 2 ^ 64 in
    let up : w ≡ registers s 4 + 8 = omega arith in
    let v = old r % 2 ^ 64 in
    let fit = fits r in
    let value : v ≡ old r = omega arith in
    let xs = set s.cpu.registers 4 w in
    let n : length xs ≡ 16 = length-set s.cpu.registers 4 w ∙ h.length in
    let b = became (record s {
      cpu = record {
        registers = set xs (number q) v;
        rip = a;
        flags = s.cpu.flags;
      };
    }) u (effect (with_rip s a) (instrs.Pop q))
    (pop_effect s a (old r) q (load_at s.memory (registers s 4) (old r) h.stack.0)) ef in
    let now : (k : ℕ) → registers u k ≡ get_or (set xs (number q) v) k 0 = λ k. ap
    (λ (ys : List ℕ). get_or ys k 0) b.registers in
    let here : registers u r ≡ old r = now r ∙ ap (λ k. get_or (set xs (number q) v) k 0) (sym same)
    ∙ set_same xs (number q) v n (number_small q) ∙ value in
    let sp : registers u 4 ≡ registers s 4 + 8 = now 4
    ∙ set_other xs (number q) 4 v (λ z. four (sym same ∙ sym z))
    ∙ set_same s.cpu.registers 4 w h.length (omega arith) ∙ up in
    let others : (k : ℕ) → r ≢ k → k ≢ 4 → registers u k ≡ registers s k = λ k x y. now k
    ∙ set_other xs (number q) k v (λ z. x (sym same ∙ sym z))
    ∙ set_other s.cpu.registers 4 k w y in
    record {
      length = ap (λ (ys : List ℕ). length ys) b.registers ∙ length-set xs (number q) v ∙ n;
      base = h.base;
      stack = subst (λ x. Stack u.memory old back h.base x (pushed rs)) (sym sp)
          (subst (λ (x : Memory). Stack x old back h.base (registers s 4 + 8) (pushed rs))
          (sym b.memory) h.stack.1);
      others = others_after old (registers s) (registers u) r (pushed rs) here others h.others;
      allowed = parts.1;
    }
popped f back a old r rs s u i high fits h e ef = absurd (false≢true e)

-- ---- modes and states

abbrev pub Has : ℕ → ℕ → (ℕ → ℕ) → ℕ → List UnwindOperation → State → Mode → Type 0
Has f offset old back ops s (Body rs) = InLoads f offset old back ops rs s
Has f offset old back ops s (Leaving rs) = InPops f old back rs s

plain_pop : (f r : ℕ) (i : Instr) → is_pop r i ≡ true → is_call i ≡ false
plain_pop f r (instrs.Pop q) e = refl
plain_pop f r i e = absurd (false≢true e)

plain_opens : (f offset n : ℕ) (i : Instr) → gives_back f offset n i ≡ true → is_call i ≡ false
plain_opens f offset n (instrs.Arithmetic o w to from) e = refl
plain_opens f offset n (instrs.LoadAddress w to m) e = refl
plain_opens f offset n i e = absurd (false≢true e)

plain_load : (f offset r : ℕ) (ops : List UnwindOperation) (i : Instr)
    → restored_by f offset ops i ≡ Some r → is_call i ≡ false
plain_load f offset r ops (instrs.Move w to from) e = refl
plain_load f offset r ops i e = absurd cc

load_role : (f offset r : ℕ) (ops : List UnwindOperation) (plain : Bool) (i : Instr)
    → restored_by f offset ops i ≡ Some r → role_of f plain i ≡ Other
load_role f offset r ops plain (instrs.Move w to from) e = refl
load_role f offset r ops plain i e = absurd cc

-- ---- one instruction

not_ends : (r : Role) → is_ends r ≡ true → is_leaving r ≡ true → ⊥
not_ends Ends a b = false≢true b
not_ends Opens a b = false≢true a
not_ends Restores a b = false≢true a
not_ends Other a b = false≢true a

leaving_step : (f back : ℕ) (old : ℕ → ℕ) (rs : List ℕ) (s u : State) (x : FetchedInstr) (to : Mode)
    (offset : ℕ) (ops : List UnwindOperation) → Known f offset old ops → leaving f rs x ≡ Some to
    → is_leaving (role_of f x.plain x.instr) ≡ true → InPops f old back rs s
    → RunsOne s x u (is_call x.instr) → Has f offset old back ops u to
leaving_step f back old [] s u x to offset ops known e l h turn = absurd
    (not_ends (role_of f x.plain x.instr) (only (Some (Body []))
    (is_ends (role_of f x.plain x.instr)) to e).0 l)
leaving_step f back old (r ∷ rs) s u x to offset ops known e l h turn =
    let o = only (Some (Leaving rs)) (is_pop r x.instr) to e in
    subst (Has f offset old back ops u) (some_same o.1)
    (popped f back _ old r rs s u x.instr known.high known.fits h o.0
    (turn_plain s u x (plain_pop f r x.instr o.0) turn))

some_of : (o : Option ℕ) → is_some o ≡ true → (r : ℕ) × (o ≡ Some r)
some_of (Some r) e = (r, refl)
some_of None e = absurd (false≢true e)

body_step : (f offset back : ℕ) (old : ℕ → ℕ) (ops : List UnwindOperation) (rs : List ℕ)
    (s u : State) (x : FetchedInstr) (to : Mode) → Known f offset old ops
    → next f offset ops x (Body rs) ≡ Some to → leaves f offset ops x ≡ true
    → InLoads f offset old back ops rs s → RunsOne s x u (is_call x.instr)
    → Has f offset old back ops u to
body_step f offset back old ops rs s u x to known e l h turn = elim
    (or_cases (is_some (restored_by f offset ops x.instr)) (is_leaving (role_of f x.plain x.instr))
    l) [
      | inl loaded ↦
          let r = some_of (restored_by f offset ops x.instr) loaded in
          let other = load_role f offset r.0 ops x.plain x.instr r.1 in
          let o = only (Some (Body (with_restored rs (restored_by f offset ops x.instr))))
          (may_write_all f ops (written x.instr)) to
          (sym (ap (from_body f offset ops rs x) other) ∙ e) in
          subst (Has f offset old back ops u) (ap (λ k. Body (with_restored rs k)) (sym r.1)
          ∙ some_same o.1) (loads f offset back _ old ops rs s u x.instr r.0 known h r.1
          (turn_plain s u x (plain_load f offset r.0 ops x.instr r.1) turn))
      | inr leave ↦ go (role_of f x.plain x.instr) refl leave
    ]
  where
    go : (r : Role) → role_of f x.plain x.instr ≡ r → is_leaving r ≡ true
        → Has f offset old back ops u to
    go Opens er lr =
        let o = only (Some (Leaving (pushes ops)))
        (are_restored rs ops && gives_back f offset (allocation ops) x.instr) to
        (sym (ap (from_body f offset ops rs x) er) ∙ e) in
        let p = and_parts (are_restored rs ops) (gives_back f offset (allocation ops) x.instr)
        o.0 in
        subst (Has f offset old back ops u) (some_same o.1)
        (opens f offset back _ old ops rs s u x.instr known h p.0 p.1
        (turn_plain s u x (plain_opens f offset (allocation ops) x.instr p.1) turn))
    go Restores er lr =
        let o = only (leaving f (pushes ops) x) (are_restored rs ops && eqb (allocation ops) 0) to
        (sym (ap (from_body f offset ops rs x) er) ∙ e) in
        let p = and_parts (are_restored rs ops) (eqb (allocation ops) 0) o.0 in
        let z = eqb-true (allocation ops) 0 p.1 in
        let first = opened f offset back old ops rs s s known h p.0 h.length refl
        (let w : registers s 4 ≡ registers s 4 + allocation ops = omega arith in w)
        (λ q ne. refl) in
        leaving_step f back old (pushes ops) s u x to offset ops known o.1 (ap is_leaving er ∙ lr)
        first turn
    go Ends er lr = absurd (false≢true lr)
    go Other er lr = absurd (false≢true lr)

leaving_not_other : (f : ℕ) (rs : List ℕ) (x : FetchedInstr) (to : Mode) → leaving f rs x ≡ Some to
    → role_of f x.plain x.instr ≡ Other → ⊥
leaving_not_other f [] x to e o = false≢true (sym (ap is_ends o)
    ∙ (only (Some (Body [])) (is_ends (role_of f x.plain x.instr)) to e).0)
leaving_not_other f (r ∷ rs) x to e o = false≢true
    (sym (ap is_leaving o) ∙ ap is_leaving (pop_role f r x.plain x.instr
    (only (Some (Leaving rs)) (is_pop r x.instr) to e).0))

pub leave_step : (f offset back : ℕ) (old : ℕ → ℕ) (ops : List UnwindOperation) (s u : State)
    (x : FetchedInstr) (m to : Mode) → Known f offset old ops → next f offset ops x m ≡ Some to
    → leaves f offset ops x ≡ true → Has f offset old back ops s m → RunsOne s x u (is_call x.instr)
    → Has f offset old back ops u to
leave_step f offset back old ops s u x (Body rs) to known e l h turn = body_step f offset back old
    ops rs s u x to known e l h turn
leave_step f offset back old ops s u x (Leaving rs) to known e l h turn = elim
    (or_cases (is_some (restored_by f offset ops x.instr)) (is_leaving (role_of f x.plain x.instr))
    l) [
      | inl loaded ↦ let r = some_of (restored_by f offset ops x.instr) loaded in
          absurd (leaving_not_other f rs x to e (load_role f offset r.0 ops x.plain x.instr r.1))
      | inr leave ↦ leaving_step f back old rs s u x to offset ops known e leave h turn
    ]

-- ---- a run

pub leave_run : (f offset back : ℕ) (old : ℕ → ℕ) (ops : List UnwindOperation)
    (xs : List FetchedInstr) (s t : State) (m to : Mode) → Known f offset old ops
    → following f offset ops xs m ≡ Some to → all_leave f offset ops xs ≡ true
    → Has f offset old back ops s m → RunsThrough s xs t → Has f offset old back ops t to
leave_run f offset back old ops [] s t m to known e l h runs = subst
    (λ (x : State). Has f offset old back ops x to) runs
    (subst (Has f offset old back ops s) (some_same e) h)
leave_run f offset back old ops (x ∷ xs) s t m to known e l h runs = go
    (λ k e'. leave_run f offset back old ops xs runs.0 t k to known e' parts.1)
    (next f offset ops x m) refl e
  where
    parts : (leaves f offset ops x ≡ true) × (all_leave f offset ops xs ≡ true)
    parts = and_parts (leaves f offset ops x) (all_leave f offset ops xs) l

    go : ((k : Mode) → following f offset ops xs k ≡ Some to → Has f offset old back ops runs.0 k
        → RunsThrough runs.0 xs t → Has f offset old back ops t to) → (o : Option Mode)
        → next f offset ops x m ≡ o → and_then (following f offset ops xs) o ≡ Some to
        → Has f offset old back ops t to
    go more (Some k) n e = more k e (leave_step f offset back old ops s runs.0 x m k known n parts.0
        h runs.1) runs.2
    go more None n e = absurd cc
