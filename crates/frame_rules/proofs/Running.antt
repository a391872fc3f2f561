-- A prologue can be run.
use Rattle.std.proofs.Common.{◌≡◌, ℕ, ◌+◌, ◌-◌, ◌%◌, ◌^◌, ◌<◌, ◌≤◌, true, not, ◌&&◌, eqb, leb, List, [], ◌∷◌, ◌++◌, set, Ok, refl, sym, ap, subst, ◌∙◌, arith}
use Rattle.std.proofs.lemmas.Bool.{false≢true, and_parts, eqb-true, eqb-false, not-true, leb-true}
use Rattle.frame_rules.specs.Words.{W64, may_write, with_bytes, with_number, Rsp, Instr, number, Cpu, State, with_rip, effect, UnwindOperation, Push, Allocate, SetFrame, Save, UnwindCode, is_nonvolatile, operations, FetchedInstr, depth, allocation, may_save, is_allowed, are_allowed, is_saved, are_apart, bytes, does, is_place, is_step, PrologueStep, items, codes_onto, ArePrologueSteps, is_single, are_single, registers, RunsOne, RunsThrough, IsEntry, return_address, ops, ProloguesRun}
use Rattle.x64_instr.specs.declared.operand.RegisterOrMemory.TheVariants as places
use Rattle.x64_instr.specs.declared.operand.Operand.TheVariants as operands
use Rattle.x64_instr.specs.declared.instruction.Operation.TheVariants as computes
use Rattle.x64_instr.specs.declared.instruction.Instr.TheVariants as instrs
use Rattle.frame_rules.proofs.Undoing.{stack_depth}
use Rattle.frame_rules.proofs.Order.{Ordered, save, ordered, framed_above, Follows, AllFollow, all_follow}
use Rattle.frame_rules.proofs.Words.{all_may}
use Rattle.frame_rules.proofs.Steps.{Running, room, push_effect, subtract_effect, save_effect, place_address, allocation_depth}
use Rattle.frame_rules.proofs.Prologues.{Good, good_done, follow_done, does_plain, does_step}
use Rattle.frame_rules.proofs.Frames.{first_running}

-- a state that an instruction leads to
pub record Leads (s : State) (a : ℕ) (i : Instr) : Type 0 where
  pub to : State
  pub is : effect (with_rip s a) i ≡ Ok to
  pub rip : to.cpu.rip ≡ a

saved_value : (f offset back : ℕ) (e s : State) (xs : List UnwindOperation) (r : ℕ)
    → may_save r xs ≡ true → Running f offset e back xs s → registers s r ≡ registers e r
saved_value f offset back e s xs r m run =
    let once = and_parts (is_nonvolatile r) (not (eqb r 4) && not (is_saved r xs)) m in
    let q = and_parts (not (eqb r 4)) (not (is_saved r xs)) once.1 in
    run.holds.others r once.0 (eqb-false r 4 (not-true (eqb r 4) q.0))
    (not-true (is_saved r xs) q.1)

leads : (f offset back n a : ℕ) (e s : State) (op : UnwindOperation) (xs : List UnwindOperation)
    (i : Instr) → IsEntry n e → depth (op ∷ xs) ≤ n → is_allowed f xs op ≡ true
    → Ordered (op ∷ xs) → Follows f op xs → does f offset op i ≡ true
    → Running f offset e back xs s → Leads s a i
leads f offset back n a e s (Push r) xs (instrs.Push q) entry deep allowed o fo d run =
    let same : number q ≡ r = eqb-true (number q) r d in
    let h = stack_depth s.memory (registers e) back (registers s 4) (registers s 4) xs
    run.holds.stack in
    let low = entry.low in
    let high = entry.high in
    let at = registers s 4 - 8 in
    let may : (b : ℕ) → at ≤ b → b < at + 8 → may_write s.memory b
    ≡ true = λ b x y. room f offset back n e s xs entry run b (omega arith) (omega arith) in
    record {
      to = record s {
        cpu = record {
          registers = set s.cpu.registers 4 at;
          rip = a;
          flags = s.cpu.flags;
        };
        memory = with_bytes s.memory
            (with_number s.memory.byte 8 at (registers e (number q)));
      };
      is = push_effect s a (registers e (number q)) at q (omega arith) (omega arith)
          (all_may (may_write s.memory) 8 at (omega arith) may)
          (saved_value f offset back e s xs (number q) (ap (λ k. may_save k xs) same
          ∙ allowed) run);
      rip = refl;
    }
leads f offset back n a e s (Allocate k) xs (instrs.Arithmetic computes.Sub W64
    (places.Register Rsp) (operands.Immediate v)) entry deep allowed o fo d
    run = record { to = _; is = subtract_effect s a v; rip = refl }
leads f offset back n a e s SetFrame xs (instrs.LoadAddress W64 to m) entry deep allowed o fo d
    run =
    record { to = _; is = refl; rip = refl }
leads f offset back n a e s (Save r k) xs (instrs.Move W64 (places.Memory m) (operands.Register q))
    entry deep allowed (save o) fo d run =
    let parts = and_parts (eqb (number q) r) (is_place f offset k m) d in
    let same : number q ≡ r = eqb-true (number q) r parts.0 in
    let al = and_parts (may_save r xs) (leb (k + 8) (allocation xs) && are_apart k xs) allowed in
    let le = leb-true (k + 8) (allocation xs)
    (and_parts (leb (k + 8) (allocation xs)) (are_apart k xs) al.1).0 in
    let shallow = allocation_depth xs in
    let base = registers s 4 in
    let h = stack_depth s.memory (registers e) back base base xs run.holds.stack in
    let low = entry.low in
    let high = entry.high in
    let fits = entry.fits (number q) in
    let val = saved_value f offset back e s xs (number q) (ap (λ j. may_save j xs) same ∙ al.0)
    run in
    let value : registers s (number q) % 2 ^ 64 ≡ registers e (number q) = omega arith in
    let c : Cpu = record { registers = s.cpu.registers; rip = a; flags = s.cpu.flags } in
    let lt : base + k < 2 ^ 64 = omega arith in
    let may : (b : ℕ) → base + k ≤ b → b < base + k + 8
    → may_write s.memory b ≡ true = λ b x y. room f offset back n e s xs entry run b (omega arith)
    (omega arith) in
    record {
      to = record s {
        cpu = c;
        memory = with_bytes s.memory
            (with_number s.memory.byte 8 (base + k) (registers e (number q)));
      };
      is = save_effect s a (registers e (number q)) (base + k) q m
          (place_address f offset k c m parts.1
          (λ ne. framed_above f offset (registers s) base xs o (fo ne) run.holds.framed) lt)
          value (all_may (may_write s.memory) 8 (base + k) (omega arith) may);
      rip = refl;
    }
leads f offset back n a e s op xs i entry deep allowed o fo d run = absurd (false≢true d)

-- ---- a whole prologue

pub record Ends (s : State) (xs : List FetchedInstr) : Type 0 where
  pub to : State
  pub runs : RunsThrough s xs to
  pub rip : to.cpu.rip ≡ s.cpu.rip + bytes xs

module _ (f offset back n : ℕ) (e : State) (entry : IsEntry n e) (small : offset < 2 ^ 16) where
  by_items : (at : ℕ) (done : List UnwindCode) (c : UnwindCode) (ss : List PrologueStep)
      (its : List FetchedInstr) (s : State) → is_single its ≡ true
      → is_step f offset c.operation its ≡ true → Good f n (operations (c ∷ done))
      → Follows f c.operation (operations done)
      → Running f offset e back (operations done) s → s.cpu.rip + bytes (its ++ items ss) < 2 ^ 64
      → ((u : State) → Running f offset e back (operations (c ∷ done)) u
      → u.cpu.rip + bytes (items ss) < 2 ^ 64 → Ends u (items ss)) → Ends s (its ++ items ss)
  by_items at done c ss [] s one h g fo run lt rest = absurd (false≢true one)
  by_items at done c ss (x ∷ y ∷ its) s one h g fo run lt rest = absurd (false≢true one)
  by_items at done c ss (x ∷ []) s one h g fo run lt rest =
      let xs = operations done in
      let p = and_parts (is_allowed f xs c.operation) (are_allowed f xs) g.allowed in
      let a = (s.cpu.rip + x.size) % 2 ^ 64 in
      let l = leads f offset back n a e s c.operation xs x.instr entry g.deep p.0
      g.ordered fo h run in
      let step = does_step f offset back n a e s l.to c.operation xs x.instr entry small g.deep p.0
      p.1 g.ordered fo h run l.is in
      let turn = subst (λ b. RunsOne s x l.to b) (sym (does_plain f offset c.operation x.instr h))
      l.is in
      let rip : l.to.cpu.rip ≡ s.cpu.rip + x.size = l.rip
      ∙ (let z : a ≡ s.cpu.rip + x.size = omega arith in z) in
      let more = rest l.to step (omega arith) in
      let end = more.rip in
      record { to = more.to; runs = (l.to, turn, more.runs); rip = omega arith }

  pub ends : (at : ℕ) (done : List UnwindCode) (ss : List PrologueStep) (s : State)
      → ArePrologueSteps f offset at ss → are_single ss ≡ true
      → Good f n (operations (codes_onto done ss)) → AllFollow f (operations (codes_onto done ss))
      → Running f offset e back (operations done) s
      → s.cpu.rip + bytes (items ss) < 2 ^ 64 → Ends s (items ss)
  ends at done [] s h one g fo run lt = record {
    to = s;
    runs = refl;
    rip = let z : s.cpu.rip ≡ s.cpu.rip + 0 = omega arith in z;
  }
  ends at done (st ∷ ss) s h one g fo run lt =
      let o = and_parts (is_single st.items) (are_single ss) one in
      by_items at done st.code ss st.items s o.0 h.0.does (good_done f n (st.code ∷ done) ss g)
      (follow_done f (st.code ∷ done) ss fo).0 run lt
      (λ u r l. ends (at + bytes st.items) (st.code ∷ done) ss u h.1 o.1 g fo r l)

pub prologues_run : ProloguesRun
prologues_run f e right entry one lt =
    let fr = f.info.frame_register in
    let off = f.info.frame_offset in
    let n = depth (ops f) in
    let good : Good fr n (ops f) = record {
      ordered = ordered (ops f) right.ordered;
      allowed = right.allowed;
      deep = omega arith;
    } in
    let r = ends fr off (return_address e) n e entry right.offset 0 [] f.steps e right.steps one
    (subst (λ (cs : List UnwindCode). Good fr n (operations cs)) right.codes good)
    (subst (λ (cs : List UnwindCode). AllFollow fr (operations cs)) right.codes
    (all_follow fr (ops f) good.ordered right.frame))
    (first_running fr off n e entry) lt in
    record { following = r.to; runs = r.runs; rip = r.rip }
