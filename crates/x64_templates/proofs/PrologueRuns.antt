-- A plan's prologue is run, one code after another.
use Rattle.std.proofs.Common.{◌≡◌, ◌≢◌, ℕ, ◌+◌, ◌-◌, ◌*◌, ◌/◌, ◌%◌, ◌^◌, ◌<◌, ◌≤◌, Bool, true, false, not, ◌&&◌, leb, List, [], ◌∷◌, set, Ok, refl, sym, ap, subst, ◌∙◌, arith, inr}
use Rattle.std.specs.Prelude.{nat_le, if◌then◌else◌}
use Rattle.std.specs.List.{flat_map}
use Rattle.std.proofs.lemmas.Bool.{false≢true, and_parts, eq-eqb, leb-true, leb-false, not-true}
use Rattle.x64_templates.specs.Words.{W64, Rsp, Instr, Flags, may_write, is_encodable, IsNear, with_bytes, with_number, State, Cpu, with_rip, effect, address_of, MachineView, machine, size, sizes, distance, sp_of, pushed, check_stack, Enters, HasCode, Within, code_stores, none_stores, code_turns, codes_turns, AreProbed, MakesFrame}
use Rattle.x64_templates.specs.Laws.{ProloguesMakeFrames}
use Rattle.eh_tables.specs.declared.code.UnwindOperation.{UnwindOperation}
use Rattle.eh_tables.specs.declared.code.UnwindOperation.TheVariants.{Push, Allocate, SetFrame, Save, SaveVector, MachineFrame}
use Rattle.virtual_unwind.specs.Contexts.{is_nonvolatile}
use Rattle.x64_instr.specs.Registers as numbers
use Rattle.x64_instr.specs.Registers.{number}
use Rattle.x64_instr.specs.declared.operand.RegisterOrMemory.TheVariants as places
use Rattle.x64_instr.specs.declared.operand.Operand.TheVariants as operands
use Rattle.x64_instr.specs.declared.instruction.Operation.TheVariants as arithmetic
use Rattle.x64_instr.specs.declared.instruction.Instr.TheVariants as instrs
use Rattle.frame_rules.specs.Bytes.{spell, prologue_code}
use Rattle.frame_rules.specs.Codes.{allocation, are_apart, depth, is_allowed, are_allowed, may_save}
use Rattle.frame_rules.specs.Plan.{FramePlan, IsPlan, all_encodable, allocating, instructions_of, operations_of, spelled_by, stack_place, steps_of, turned}
use Rattle.frame_rules.specs.Prologue.{ArePrologueSteps, bytes, is_step}
use Rattle.frame_rules.specs.States.{IsEntry, registers, return_address}
use Rattle.frame_rules.proofs.Bytes.{spells_all}
use Rattle.frame_rules.proofs.Frames.{first_running}
use Rattle.frame_rules.proofs.Order.{ordered, AllFollow, all_follow}
use Rattle.frame_rules.proofs.Planning.{AllEmitted, all_turned, are_steps, emitted_plan, framed_plan, nonvolatile_number, ordered_plan, step_encodable}
use Rattle.frame_rules.proofs.Prologues.{Good, carried, does_step, good_rest, positive}
use Rattle.frame_rules.proofs.Steps.{Running, allocation_depth, fallen, push_effect, room, save_effect, set_other, stack_address, subtract_effect}
use Rattle.frame_rules.proofs.Undoing.{stack_depth}
use Rattle.frame_rules.proofs.Words.{all_may, moved_words}
use Rattle.x64_templates.proofs.Computes.{code_split}
use Rattle.x64_templates.proofs.Entries.{beside, writable_readable}
use Rattle.x64_templates.proofs.Lemmas.{sizes_append}
use Rattle.x64_templates.proofs.LargeEntries.{enter_large_run}
use Rattle.x64_templates.proofs.PlacedCode.{enters_on, reaches_enters}
use Rattle.x64_templates.proofs.PrologueParts.{bytes_sizes, first_steps, follow_before, good_before, other_kind, pushes_before, seen, turned_back}
use Rattle.x64_templates.proofs.Ranges.{within_cell, within_keeps_code, within_same, within_then}

module _ (p : FramePlan) (is_plan : IsPlan p) (check : ℕ) (e : State)
    (entry : IsEntry (depth (operations_of p)) e) (checks : HasCode e.memory check check_stack)
  where
    abbrev f : ℕ
    f = p.frame

    abbrev offset : ℕ
    offset = p.distance

    abbrev back : ℕ
    back = return_address e

    abbrev n : ℕ
    n = depth (operations_of p)

    abbrev top : ℕ
    top = registers e 4

    abbrev begin : ℕ
    begin = e.cpu.rip

    abbrev end : ℕ
    end = begin + sizes (prologue_code p)

    -- the state where the codes so far have been run
    record Here (done : List UnwindOperation) (at : ℕ) (s : State) : Type 0 where
      running : Running f offset e back done s
      rip : s.cpu.rip ≡ begin + at
      kept : (r : ℕ) → is_nonvolatile r ≡ false → r ≢ 0 → r ≢ 10 → r ≢ 11
          → registers s r ≡ registers e r
      within : Within (top - n) top e.memory s.memory
      same : none_stores done ≡ true → s.memory ≡ e.memory

    record Goes (turns at : ℕ) (ops : List UnwindOperation) (s : State) : Type 0 where
      to : State
      comes : Enters begin end turns s to
      here : Here ops at to

    -- RSP has fallen by the codes so far
    fallen_so_far : (done : List UnwindOperation) (s : State) → Running f offset e back done s
        → registers s 4 + depth done ≡ top
    fallen_so_far done s run = stack_depth s.memory (registers e) back (registers s 4)
        (registers s 4) done run.holds.stack

    -- ---- what one instruction does

    -- stores: whether it stores something
    record Does (s : State) (a : ℕ) (i : Instr) (stores : Bool) : Type 0 where
      to : State
      is : effect (with_rip s a) i ≡ Ok to
      rip : to.cpu.rip ≡ a
      kept : (r : ℕ) → is_nonvolatile r ≡ false → registers to r ≡ registers s r
      within : Within (top - n) top s.memory to.memory
      same : stores ≡ false → to.memory ≡ s.memory

    pushes : (r a : ℕ) (s : State) (done : List UnwindOperation) → Good f n (Push r ∷ done)
        → Running f offset e back done s → Does s a (instrs.Push (numbers.register r))
        true
    pushes r a s done g run =
        let d = fallen_so_far done s run in
        let deep = g.deep in
        let low = entry.low in
        let high = entry.high in
        let at = registers s 4 - 8 in
        let q = numbers.register r in
        let v = registers s (number q) in
        let may : (b : ℕ) → at ≤ b → b < at + 8 → may_write s.memory b ≡ true =
        λ b x y. room f offset back n e s done entry run b (omega arith) (omega arith) in
        record {
          to = record s {
            cpu = record { registers = set s.cpu.registers 4 at; rip = a; flags = s.cpu.flags };
            memory = with_bytes s.memory (with_number s.memory.byte 8 at v);
          };
          is = push_effect s a v at q (omega arith) (omega arith)
              (all_may (may_write s.memory) 8 at (omega arith) may) refl;
          rip = refl;
          kept = λ k v. set_other s.cpu.registers 4 k at (other_kind k 4 v refl);
          within = within_cell s.memory (top - n) top at v (omega arith) (omega arith)
              (omega arith);
          same = λ z. absurd (false≢true (sym z));
        }

    allocates : (k a : ℕ) (s : State) → Does s a
        (instrs.Arithmetic arithmetic.Sub W64 (places.Register Rsp) (operands.Immediate k)) false
    allocates k a s = record {
      to = _;
      is = subtract_effect s a k;
      rip = refl;
      kept = λ r v. set_other s.cpu.registers 4 r _ (other_kind r 4 v refl);
      within = within_same (top - n) top s.memory;
      same = λ z. refl;
    }

    frames : (a : ℕ) (s : State) → is_nonvolatile f ≡ true → Does s a
        (instrs.LoadAddress W64 (numbers.register f) (stack_place offset)) false
    frames a s nv =
        let c : Cpu = record { registers = s.cpu.registers; rip = a; flags = s.cpu.flags } in
        let q = numbers.register f in
        let v = address_of c (stack_place offset) % 2 ^ 64 in
        record {
          to = record s {
            cpu = record {
              registers = set s.cpu.registers (number q) v;
              rip = a;
              flags = s.cpu.flags;
            };
          };
          is = refl;
          rip = refl;
          kept = λ r vol. set_other s.cpu.registers (number q) r v
              (λ z. other_kind r f vol nv (z ∙ nonvolatile_number f nv));
          within = within_same (top - n) top s.memory;
          same = λ z. refl;
        }

    saves : (r k a : ℕ) (s : State) (done : List UnwindOperation) → Good f n (Save r k ∷ done)
        → Running f offset e back done s → Does s a
        (instrs.Move W64 (places.Memory (stack_place k)) (operands.Register (numbers.register r)))
        true
    saves r k a s done g run =
        let d = fallen_so_far done s run in
        let deep = g.deep in
        let low = entry.low in
        let high = entry.high in
        let allowed = and_parts (is_allowed f done (Save r k)) (are_allowed f done) g.allowed in
        let al = and_parts (may_save r done) (leb (k + 8) (allocation done) && are_apart k done)
        allowed.0 in
        let le = leb-true (k + 8) (allocation done)
        (and_parts (leb (k + 8) (allocation done)) (are_apart k done) al.1).0 in
        let shallow = allocation_depth done in
        let base = registers s 4 in
        let q = numbers.register r in
        let v = registers s (number q) % 2 ^ 64 in
        let c : Cpu = record { registers = s.cpu.registers; rip = a; flags = s.cpu.flags } in
        let lt : base + k < 2 ^ 64 = omega arith in
        let may : (b : ℕ) → base + k ≤ b → b < base + k + 8 → may_write s.memory b ≡ true =
        λ b x y. room f offset back n e s done entry run b (omega arith) (omega arith) in
        record {
          to = record s {
            cpu = c;
            memory = with_bytes s.memory (with_number s.memory.byte 8 (base + k) v);
          };
          is = save_effect s a v (base + k) q (stack_place k)
              (stack_address c k (stack_place k) (eq-eqb k k refl) lt) refl
              (all_may (may_write s.memory) 8 (base + k) (omega arith) may);
          rip = refl;
          kept = λ j vol. refl;
          within = within_cell s.memory (top - n) top (base + k) v (omega arith) (omega arith)
              (omega arith);
          same = λ z. absurd (false≢true (sym z));
        }

    -- ---- what is left

    abbrev long : UnwindOperation → ℕ
    long x = bytes (spelled_by spell (instructions_of p x))

    -- these codes, after those that have been run
    record Left (xs done : List UnwindOperation) (at : ℕ) : Type 0 where
      emitted : AllEmitted p xs
      steps : ArePrologueSteps f offset at (steps_of spell p at xs)
      good : Good f n (turned done xs)
      follow : AllFollow f (turned done xs)
      probed : AreProbed p check (begin + at) xs
      code : HasCode e.memory (begin + at) (flat_map (instructions_of p) xs)
      whole : at + sizes (flat_map (instructions_of p) xs) ≡ sizes (prologue_code p)

    next_left : (x : UnwindOperation) (xs done : List UnwindOperation) (at : ℕ)
        → Left (x ∷ xs) done at → Left xs (x ∷ done) (at + long x)
    next_left x xs done at l =
        let same = bytes_sizes (instructions_of p x) in
        let z : begin + at + sizes (instructions_of p x) ≡ begin + (at + long x) = omega arith in
        record {
          emitted = l.emitted.1;
          steps = l.steps.1;
          good = l.good;
          follow = l.follow;
          probed = subst (λ a. AreProbed p check a xs) z l.probed.1;
          code = subst (λ a. HasCode e.memory a (flat_map (instructions_of p) xs)) z
              (code_split e.memory (begin + at) (instructions_of p x)
              (flat_map (instructions_of p) xs) l.code).1;
          whole = omega (
            arith,
            l.whole,
            sizes_append (instructions_of p x) (flat_map (instructions_of p) xs),
          );
        }

    room_writable : (a : ℕ) → top - n ≤ a → a < top → may_write e.memory a ≡ true
    room_writable a lo hi = entry.writable a (omega arith) hi

    -- the code of the next one
    code_here : (x : UnwindOperation) (xs done : List UnwindOperation) (at : ℕ)
        → Left (x ∷ xs) done at → (s : State) → Here done at s
        → HasCode s.memory (begin + at) (instructions_of p x)
    code_here x xs done at l s h = within_keeps_code (top - n) top e.memory s.memory (begin + at)
        (instructions_of p x) room_writable h.within
        (code_split e.memory (begin + at) (instructions_of p x) (flat_map (instructions_of p) xs)
        l.code).0

    -- ---- one instruction

    one_goes : (x : UnwindOperation) (xs done : List UnwindOperation) (at : ℕ) (i : Instr)
        → instructions_of p x ≡ i ∷ [] → Left (x ∷ xs) done at → (s : State) → Here done at s
        → Does s (s.cpu.rip + size i) i (code_stores x) → Goes 1 (at + long x) (x ∷ done) s
    one_goes x xs done at i same l s h d =
        let g = good_before f n (x ∷ done) xs l.good in
        let a = and_parts (is_allowed f done x) (are_allowed f done) g.allowed in
        let does = subst (λ (is : List Instr). is_step f offset x (spelled_by spell is) ≡ true) same
        l.steps.0.does in
        let enc = (and_parts (is_encodable i) true (subst (λ (is : List Instr).
        all_encodable is ≡ true) same (step_encodable p x is_plan l.emitted.0))).0 in
        let code = subst (λ b. HasCode s.memory b (i ∷ [])) (sym h.rip)
        (subst (HasCode s.memory (begin + at)) same (code_here x xs done at l s h)) in
        let run = does_step f offset back n (s.cpu.rip + size i) e s d.to x done i entry
        is_plan.distance g.deep a.0 a.1 g.ordered (follow_before f (x ∷ done) xs l.follow).0 does
        h.running d.is in
        let to : s.cpu.rip + size i ≡ begin + (at + long x) = omega (
          arith,
          h.rip,
          bytes_sizes (instructions_of p x),
          ap sizes same,
        ) in
        record {
          to = d.to;
          comes = (d.to, first_steps i s d.to enc code d.is, refl);
          here = record {
            running = run;
            rip = d.rip ∙ to;
            kept = λ r vol zero' ten eleven. d.kept r vol ∙ h.kept r vol zero' ten eleven;
            within = within_then (top - n) top e.memory s.memory d.to.memory h.within d.within;
            same = λ none. (let both = and_parts (not (code_stores x)) (none_stores done) none in
                d.same (not-true (code_stores x) both.0) ∙ h.same both.1);
          };
        }

    -- ---- a large allocation

    module _ (k : ℕ) (xs done : List UnwindOperation) (at : ℕ) (large : nat_le k 4096 ≡ false)
        (l : Left (Allocate k ∷ xs) done at) where
      abbrev x : UnwindOperation
      x = Allocate k

      by_view : (v : MachineView) (rip : ℕ) (flags : Flags) → Here done at (machine v rip flags)
          → Goes (8 + 4 * (k / 4096)) (at + long x) (x ∷ done) (machine v rip flags)
      by_view v rip flags h =
          let s = machine v rip flags in
          let g = good_before f n (x ∷ done) xs l.good in
          let more = leb-false k 4096 large in
          let deep = g.deep in
          let low = entry.low in
          let high = entry.high in
          let d = fallen_so_far done s h.running in
          let sp = registers s 4 in
          let at_sp : sp_of v ≡ sp = refl in
          let probe = l.probed.0 large in
          let here = h.rip in
          let may : (b : ℕ) → top - n ≤ b → b < sp → may_write v.memory b ≡ true =
          λ b lo hi. room f offset back n e s done entry h.running b (omega arith)
          (omega arith) in
          let three : instructions_of p x ≡ allocating (distance (rip + 10) check) k false =
          ap (allocating p.probe k) large
          ∙ ap (λ (q : ℕ). allocating q k false) (probe.0
          ∙ ap (λ b. distance (b + 10) check) (sym h.rip)) in
          let code = subst
          (λ b. HasCode v.memory b (allocating (distance (rip + 10) check) k false)) (sym h.rip)
          (subst (HasCode v.memory (begin + at)) three (code_here x xs done at l s h)) in
          let placed = code.placed.high in
          let most = l.emitted.0 in
          let r = enter_large_run v sp k rip check flags at_sp
          (record {
            enough = omega arith;
            high = omega arith;
            writable = λ b lo hi. may b (omega arith) hi;
          })
          (record {
            enough = omega arith;
            more = omega arith;
            high = omega arith;
            readable = λ b lo hi. writable_readable v.memory b (may b (omega arith) hi);
          }) most (subst (λ b. IsNear (b + 10) check) (sym h.rip) probe.1) (omega arith)
          (within_keeps_code (top - n) top e.memory v.memory check check_stack room_writable
          h.within checks) code in
          let memory = (pushed v sp (rip + 10)).memory in
          let mid = machine (record v {
            rax = k;
            rest = record v.rest { r10 = r.tenth; r11 = r.eleventh };
            memory = memory;
          }) rip flags in
          let u = machine (record v {
            rax = k;
            rest = record v.rest { rsp = sp - k; r10 = r.tenth; r11 = r.eleventh };
            memory = memory;
          }) (rip + sizes (allocating (distance (rip + 10) check) k false)) r.flags in
          let mid_kept : (j : ℕ) → j ≢ 0 → j ≢ 10 → j ≢ 11 → registers mid j ≡ registers s j =
          λ j zero' ten eleven.
          set_other (set (set s.cpu.registers 0 k) 10 r.tenth) 11 j r.eleventh eleven
          ∙ set_other (set s.cpu.registers 0 k) 10 j r.tenth ten
          ∙ set_other s.cpu.registers 0 j k zero' in
          let u_kept : (j : ℕ) → j ≢ 4 → registers u j ≡ registers mid j = λ j e'.
          set_other mid.cpu.registers 4 j (sp - k) e' in
          let lower : registers u 4 ≡ sp - k = refl in
          let level : registers mid 4 ≡ sp = refl in
          let nonvolatile : (i j : ℕ) → is_nonvolatile i ≡ false → is_nonvolatile j ≡ true → j ≢ i =
          λ i j vol nv z. false≢true (sym vol ∙ ap is_nonvolatile (sym z) ∙ nv) in
          let half = carried f offset back e s mid done (good_rest f n x done g).allowed h.running
          refl refl
          (moved_words v.memory memory (registers e) back sp sp done refl
          (λ b le. beside v.memory sp (rip + 10) b (omega arith) (omega arith) (inr le))
          (omega arith) h.running.holds.stack)
          (λ j nv. mid_kept j (nonvolatile 0 j refl nv) (nonvolatile 10 j refl nv)
          (nonvolatile 11 j refl nv)) in
          record {
            to = u;
            comes = reaches_enters begin end (8 + 4 * (k / 4096)) s u r.comes;
            here = record {
              running = fallen f offset back n k e mid u done entry g.deep
                  (pushes_before k done g.ordered) half refl
                  (refl {a = memory})
                  (omega (arith, lower, level))
                  (λ j nv ne. u_kept j ne);
              rip = omega (
                arith,
                h.rip,
                bytes_sizes (instructions_of p x),
                ap sizes three,
              );
              kept = λ j vol zero' ten eleven. u_kept j (other_kind j 4 vol refl)
                  ∙ mid_kept j zero' ten eleven ∙ h.kept j vol zero' ten eleven;
              within = within_then (top - n) top e.memory v.memory memory h.within
                  (within_cell v.memory (top - n) top (sp - 8) (rip + 10) (omega arith)
                  (omega arith) (omega arith));
              same = λ none. absurd (false≢true (sym (ap not (ap not large))
                  ∙ (and_parts (not (code_stores x)) (none_stores done) none).0));
            };
          }

      large_goes : (s : State) → Here done at s
          → Goes (8 + 4 * (k / 4096)) (at + long x) (x ∷ done) s
      large_goes s h =
          let w = seen s h.running.length in
          subst (Goes (8 + 4 * (k / 4096)) (at + long x) (x ∷ done)) (sym w.is)
          (by_view w.view s.cpu.rip s.cpu.flags (subst (Here done at) w.is h))

    -- ---- a code, and all that are left

    code_goes : (x : UnwindOperation) (xs done : List UnwindOperation) (at : ℕ)
        → Left (x ∷ xs) done at → (s : State) → Here done at s
        → Goes (code_turns x) (at + long x) (x ∷ done) s
    code_goes (Push r) xs done at l s h =
        one_goes (Push r) xs done at (instrs.Push (numbers.register r)) refl l s h
        (pushes r _ s done (good_before f n (Push r ∷ done) xs l.good) h.running)
    code_goes (Allocate k) xs done at l s h = by (nat_le k 4096) refl
      where
        by : (few : Bool) → nat_le k 4096 ≡ few
            → Goes (if few then 1 else 8 + 4 * (k / 4096)) (at + long (Allocate k))
            (Allocate k ∷ done) s
        by true e' = one_goes (Allocate k) xs done at
            (instrs.Arithmetic arithmetic.Sub W64 (places.Register Rsp) (operands.Immediate k))
            (ap (allocating p.probe k) e') l s h
            (subst (Does s _ _) (sym (ap not e')) (allocates k _ s))
        by false e' = large_goes k xs done at e' l s h
    code_goes SetFrame xs done at l s h =
        one_goes SetFrame xs done at
        (instrs.LoadAddress W64 (numbers.register f) (stack_place offset)) refl l s h
        (frames _ s l.emitted.0)
    code_goes (Save r k) xs done at l s h =
        one_goes (Save r k) xs done at (instrs.Move W64 (places.Memory (stack_place k))
        (operands.Register (numbers.register r))) refl l s h
        (saves r k _ s done (good_before f n (Save r k ∷ done) xs l.good) h.running)
    code_goes (SaveVector r k) xs done at l s h = absurd l.emitted.0
    code_goes (MachineFrame k) xs done at l s h = absurd l.emitted.0

    -- what is left after a code begins strictly inside the prologue
    strictly : (xs done : List UnwindOperation) (at : ℕ) → Left xs done at → 0 < at
        → 0 < codes_turns xs → (begin < begin + at) × (begin + at < end)
    strictly [] done at l some turns = absurd (omega arith)
    strictly (x ∷ xs) done at l some turns =
        let pos = positive f offset x (spelled_by spell (instructions_of p x)) l.steps.0.does
        l.steps.0.sized in
        let same = bytes_sizes (instructions_of p x) in
        let both = sizes_append (instructions_of p x) (flat_map (instructions_of p) xs) in
        let whole = l.whole in
        (omega arith, omega arith)

    all_go : (xs done : List UnwindOperation) (at : ℕ) → Left xs done at → (s : State)
        → Here done at s → Goes (codes_turns xs) (sizes (prologue_code p)) (turned done xs) s
    all_go [] done at l s h =
        let whole = l.whole in
        subst (λ a. Goes 0 a done s)
        (let z : at ≡ sizes (prologue_code p) = omega arith in z)
        (record { to = s; comes = refl; here = h })
    all_go (x ∷ xs) done at l s h =
        let one = code_goes x xs done at l s h in
        let left = next_left x xs done at l in
        let pos = positive f offset x (spelled_by spell (instructions_of p x)) l.steps.0.does
        l.steps.0.sized in
        let rest = all_go xs (x ∷ done) (at + long x) left one.to one.here in
        record {
          to = rest.to;
          comes = enters_on begin end (code_turns x) (codes_turns xs) s one.to rest.to one.comes
              (λ some. subst (λ a. (begin < a) × (a < end)) (sym one.here.rip)
              (strictly xs (x ∷ done) (at + long x) left (omega arith) some)) rest.comes;
          here = rest.here;
        }

    module _ (code : HasCode e.memory e.cpu.rip (prologue_code p))
        (probed : AreProbed p check e.cpu.rip (turned [] (operations_of p))) where
      begins : Left (turned [] (operations_of p)) [] 0
      begins =
          let z : begin ≡ begin + 0 = omega arith in
          record {
            emitted = all_turned p [] (operations_of p) tt (emitted_plan p is_plan);
            steps = are_steps spell spells_all p is_plan;
            good = subst (Good f n) (sym (turned_back [] (operations_of p))) (record {
              ordered = ordered (operations_of p) (ordered_plan p);
              allowed = is_plan.allowed;
              deep = omega arith;
            });
            follow = subst (AllFollow f) (sym (turned_back [] (operations_of p)))
                (all_follow f (operations_of p) (ordered (operations_of p) (ordered_plan p))
                (framed_plan p));
            probed = subst (λ a. AreProbed p check a (turned [] (operations_of p))) z probed;
            code = subst (λ a. HasCode e.memory a (prologue_code p)) z code;
            whole = omega arith;
          }

      ran : MakesFrame p e
      ran =
          let r = all_go (turned [] (operations_of p)) [] 0 begins e (record {
            running = first_running f offset n e entry;
            rip = (let z : begin ≡ begin + 0 = omega arith in z);
            kept = λ j a b c d. refl;
            within = within_same (top - n) top e.memory;
            same = λ none. refl;
          }) in
          let run = subst (λ ops. Running f offset e back ops r.to)
          (turned_back [] (operations_of p)) r.here.running in
          record {
            following = r.to;
            comes = r.comes;
            rip = r.here.rip;
            count = run.length;
            holds = run.holds;
            volatile = r.here.kept;
            within = r.here.within;
            same = λ none. r.here.same (ap none_stores (turned_back [] (operations_of p)) ∙ none);
          }

pub prologue_run : ProloguesMakeFrames
prologue_run p check e is_plan entry code probed checks = ran p is_plan check e entry checks code
    probed
