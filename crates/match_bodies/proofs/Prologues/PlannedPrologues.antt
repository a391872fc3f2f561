-- A plan's prologue is run, one code after another, and the shadow is kept.
use Rattle.std.proofs.Common.{◌≡◌, ℕ, ◌+◌, ◌^◌, ◌<◌, ◌≤◌, Bool, true, false, List, [], ◌∷◌, length, Some, refl, sym, ap, subst, ◌∙◌, arith}
use Rattle.std.specs.Prelude.{nat_le, if◌then◌else◌}
use Rattle.std.specs.List.{flat_map}
use Rattle.std.proofs.lemmas.Bool.{and_parts, leb-false}
use Rattle.template_code.specs.ColdParts.{hot_code}
use Rattle.match_bodies.specs.Words.{frame_info, Memory, W32, W64, Rax, Rsp, Instr, State, size, AllSmall, LinearBody, BodyName, body_of, sizes, IsNear, call, code_from, HasCode, StackItem, AllKeep, links_of, begin_of, making_size, frame_code, arguments_code, entry_code, FindsOwed, Owed, nothing_owed, owed_of, owed_by, Setting, is_encodable}
use Rattle.eh_tables.specs.Infos.{Info}
use Rattle.eh_tables.specs.declared.code.UnwindCode.{UnwindCode}
use Rattle.eh_tables.specs.declared.code.UnwindOperation.{UnwindOperation}
use Rattle.eh_tables.specs.declared.code.UnwindOperation.TheVariants.{Push, Allocate, SetFrame, Save, SaveVector, MachineFrame}
use Rattle.x64_instr.specs.Registers as numbers
use Rattle.x64_instr.specs.declared.operand.RegisterOrMemory.TheVariants as places
use Rattle.x64_instr.specs.declared.operand.Operand.TheVariants as operands
use Rattle.x64_instr.specs.declared.instruction.Operation.TheVariants as arithmetic
use Rattle.x64_instr.specs.declared.instruction.Instr.TheVariants as instrs
use Rattle.virtual_unwind.specs.CallerOf.{run_by}
use Rattle.virtual_unwind.specs.Undone.{operations}
use Rattle.frame_rules.specs.Bytes.{spell, prologue_code}
use Rattle.frame_rules.specs.Plan.{FramePlan, IsPlan, allocating, all_encodable, instructions_of, operations_of, prologue, spelled_by, stack_place, step_of, steps_of, turned}
use Rattle.frame_rules.specs.Prologue.{ArePrologueSteps, bytes, codes_onto, is_step}
use Rattle.frame_rules.proofs.Bytes.{spells_all}
use Rattle.frame_rules.proofs.Order.{ordered, AllFollow, all_follow}
use Rattle.frame_rules.proofs.Planning.{AllEmitted, all_turned, are_steps, codes_plan, emitted_plan, framed_plan, ordered_plan, step_encodable}
use Rattle.frame_rules.proofs.Prologues.{AtMost, Good, follow_done, good_done, positive, run_done, skips_first}
use Rattle.frame_rules.proofs.Sizes.{frame_has_its_size}
use Rattle.match_bodies.specs.CodeSites.{body_plan}
use Rattle.match_bodies.specs.ProgramImages.{IsPlanned}
use Rattle.match_bodies.specs.Callers.{owed_after}
use Rattle.match_bodies.specs.Setting.{HasProgram}
use Rattle.match_bodies.proofs.Lemmas.{call_size, code_split, keep_first, short, sizes_append}
use Rattle.x64_templates.specs.Prologues.{AreProbed, code_turns, codes_turns, prologue_turns}
use Rattle.x64_templates.proofs.PrologueParts.{bytes_sizes}
use Rattle.match_bodies.proofs.Prologues.FrameCode.{steps_sizes}
use Rattle.match_bodies.proofs.Prologues.ProbedPlans.{plan_probed}
use Rattle.match_bodies.proofs.Steps.BodyFrames.{frame_plan_is, saved_few}
use Rattle.template_code.specs.Frames.{plan_of_layout, probe_end}
use Rattle.match_bodies.proofs.Walks.SilentTurns.{program_kept}
use Rattle.match_bodies.proofs.Walks.RoutineWalks.{StepsTo, steps_split, keeps_split, Beneath}
use Rattle.match_bodies.proofs.Walks.ReturnAddresses.{argument_found}
use Rattle.match_bodies.proofs.Prologues.PrologueSteps.{of_codes, falling, made}
use Rattle.match_bodies.proofs.Prologues.ProbedAllocation.{IsLargeAt, falling_size, large_taken, large_turns, move_size}

-- codes that have been run end at this address or before it, so also before another
later : (at d : ℕ) (done : List UnwindCode) → at ≤ d → AtMost at done → AtMost d done
later at d [] le m = tt
later at d (c ∷ cs) le m = omega (arith, m)

module _ (setting : Setting) where
  open setting use {functions as t, funclets as fs, program, plan as p, sites as q, image}

  module _ (name : BodyName) (b : LinearBody) (is : body_of program name ≡ Some b)
      (some : 0 < length b.code) where
    abbrev begin : ℕ
    begin = begin_of p q name

    abbrev frame : ℕ
    frame = (p.layout name).frame

    -- what is to be undone in it
    abbrev owed : Owed
    owed = owed_of p name

    -- the code that makes it
    pub frame_there : (m : Memory) → HasProgram setting m
        → HasCode m begin (frame_code (body_plan p q name) (p.leaf name))
        × HasCode m (begin + making_size p q name) (arguments_code program p name)
    frame_there m has =
        let entry = code_split m begin (entry_code program p q name)
        (code_from (links_of p q name) (p.layout name) (p.address name 0) (hot_code b))
        (has.code name b is) in
        code_split m begin (frame_code (body_plan p q name) (p.leaf name))
        (arguments_code program p name) entry.0

    -- where arguments are stored
    ready_found : (m : Memory) → HasProgram setting m
        → FindsOwed t m (begin + making_size p q name) owed
    ready_found m has = let z : begin + making_size p q name + 0
        ≡ begin + making_size p q name = omega arith in
        subst (λ a. FindsOwed t m a owed) z
        (argument_found setting name b is m has some []
        (arguments_code program p name) refl)

    near_probe : IsNear (begin + probe_end (plan_of_layout (p.layout name) 0)) q.check_stack
    near_probe =
        let few = saved_few setting name b is in
        let a = image.addresses name b is in
        let a0 = a.first in
        let a1 = a.inside.low in
        let a2 = a.inside.high in
        let c1 = image.check_stack.low in
        let c2 = image.check_stack.high in
        (omega arith, omega arith, omega arith, omega arith)

    -- the plan of its frame keeps the rules, and its prologue probes what it allocates
    pub body_planned : p.leaf name ≡ false → IsPlan (body_plan p q name)
    body_planned framed =
        let plan = (frame_plan_is setting name b is framed).is_plan in
        record {
          size = plan.size;
          distance = plan.distance;
          probe = short (begin + probe_end (plan_of_layout (p.layout name) 0)) q.check_stack
              near_probe;
          allowed = plan.allowed;
        }

    pub body_probed : AreProbed (body_plan p q name) q.check_stack begin
        (turned [] (operations_of (body_plan p q name)))
    body_probed = plan_probed (p.layout name) begin q.check_stack near_probe

    module _ (top from back : ℕ) (others : List ℕ) (list : List StackItem)
        (framed : p.leaf name ≡ false) (small : AllSmall others) (high : top < 2 ^ 63) where
      -- the plan of its frame
      abbrev framing : FramePlan
      framing = body_plan p q name

      abbrev info : Info
      info = (frame_info p name)

      abbrev f : ℕ
      f = framing.frame

      abbrev offset : ℕ
      offset = framing.distance

      planned : IsPlanned t fs program p q name
      planned = image.plans name b is framed

      -- the code that makes the frame is the plan's prologue
      making_is : making_size p q name ≡ sizes (prologue_code framing)
      making_is = ap (λ l. sizes (frame_code (body_plan p q name) l)) framed

      is_plan : IsPlan framing
      is_plan = body_planned framed

      prologue_is : info.prologue_size ≡ making_size p q name
      prologue_is = planned.prologue_size
          ∙ steps_sizes framing 0 (turned [] (operations_of framing)) ∙ sym making_is

      -- the codes of an entry, where they are these
      owed_is : (cs : List UnwindCode) → info.codes ≡ cs
          → owed ≡ of_codes f offset (operations cs)
      owed_is cs e = ap (owed_by info) framed ∙ (λ j. record {
        register = planned.frame_register j;
        offset = planned.frame_offset j;
        codes = operations (e j);
      })

      -- ---- in the prologue

      -- so far from the first byte these codes have been run, and these operations are left
      record Left (xs : List UnwindOperation) (done : List UnwindCode) (at : ℕ) : Type 0 where
        emitted : AllEmitted framing xs
        steps : ArePrologueSteps f offset at (steps_of spell framing at xs)
        ended : AtMost at done
        codes : info.codes ≡ codes_onto done (steps_of spell framing at xs)
        good : Good f top (operations (codes_onto done (steps_of spell framing at xs)))
        follow : AllFollow f (operations (codes_onto done (steps_of spell framing at xs)))
        probed : AreProbed framing q.check_stack (begin + at) xs
        whole : at + sizes (flat_map (instructions_of framing) xs) ≡ making_size p q name
        there : (m : Memory) → HasProgram setting m
            → HasCode m (begin + at) (flat_map (instructions_of framing) xs)

      abbrev spelled : UnwindOperation → ℕ
      spelled x = bytes (spelled_by spell (instructions_of framing x))

      abbrev code_of : ℕ → UnwindOperation → UnwindCode
      code_of at x = (step_of spell framing at x).code

      -- the instructions of the next one
      next_there : (x : UnwindOperation) (xs : List UnwindOperation) (done : List UnwindCode)
          (at : ℕ) → Left (x ∷ xs) done at → (m : Memory) → HasProgram setting m
          → HasCode m (begin + at) (instructions_of framing x)
          × HasCode m (begin + (at + spelled x)) (flat_map (instructions_of framing) xs)
      next_there x xs done at l m has =
          let is' = instructions_of framing x in
          let h = code_split m (begin + at) is' (flat_map (instructions_of framing) xs)
          (l.there m has) in
          let z : begin + at + sizes is' ≡ begin + (at + spelled x) = omega (
            arith,
            bytes_sizes is',
          ) in
          (h.0, subst (λ a. HasCode m a (flat_map (instructions_of framing) xs)) z h.1)

      next_left : (x : UnwindOperation) (xs : List UnwindOperation) (done : List UnwindCode)
          (at : ℕ) → Left (x ∷ xs) done at → Left xs (code_of at x ∷ done) (at + spelled x)
      next_left x xs done at l = record {
        emitted = l.emitted.1;
        steps = l.steps.1;
        ended = (let z : at + spelled x ≤ at + spelled x = omega arith in z);
        codes = l.codes;
        good = l.good;
        follow = l.follow;
        probed = subst (λ a. AreProbed framing q.check_stack a xs)
            (let same = bytes_sizes (instructions_of framing x) in
            let z : begin + at + sizes (instructions_of framing x)
            ≡ begin + (at + spelled x) = omega arith in z) l.probed.1;
        whole = omega (
          arith,
          l.whole,
          bytes_sizes (instructions_of framing x),
          sizes_append (instructions_of framing x) (flat_map (instructions_of framing) xs),
        );
        there = λ m has. (next_there x xs done at l m has).1;
      }

      -- within the instructions of the next one a walk finds the caller by those before it
      within_found : (x : UnwindOperation) (xs : List UnwindOperation) (done : List UnwindCode)
          (at : ℕ) → Left (x ∷ xs) done at → (m : Memory) (d : ℕ) → d < spelled x
          → FindsOwed t m (begin + (at + d)) (of_codes f offset (operations done))
      within_found x xs done at l m d lt =
          let ss = steps_of spell framing (at + spelled x) xs in
          let le : at ≤ at + d = omega arith in
          let before : at + d < info.prologue_size = omega (
            arith,
            l.whole,
            prologue_is,
            bytes_sizes (instructions_of framing x),
            sizes_append (instructions_of framing x) (flat_map (instructions_of framing) xs),
          ) in
          let run : operations (run_by (at + d) info.codes) ≡ operations done =
          ap (λ (cs : List UnwindCode). operations (run_by (at + d) cs)) l.codes
          ∙ ap operations (skips_first f offset at (at + d) done (step_of spell framing at x) ss
          (omega arith) l.steps ∙ run_done (at + d) done (later at (at + d) done le l.ended)) in
          let same : owed_after info (at + d) ≡ of_codes f offset (operations done) =
          λ j. record {
            register = planned.frame_register j;
            offset = planned.frame_offset j;
            codes = run j;
          } in
          subst (FindsOwed t m (begin + (at + d))) same
          ((image.callers name b is).making m (at + d) framed before)

      first_found : (x : UnwindOperation) (xs : List UnwindOperation) (done : List UnwindCode)
          (at : ℕ) → Left (x ∷ xs) done at → (m : Memory)
          → FindsOwed t m (begin + at) (of_codes f offset (operations done))
      first_found x xs done at l m =
          let some' = positive f offset x (spelled_by spell (instructions_of framing x))
          l.steps.0.does l.steps.0.sized in
          let z : begin + (at + 0) ≡ begin + at = omega arith in
          subst (λ a. FindsOwed t m a (of_codes f offset (operations done))) z
          (within_found x xs done at l m 0 some')

      -- and so it does where the next one begins, or what comes after the prologue
      left_found : (xs : List UnwindOperation) (done : List UnwindCode) (at : ℕ)
          → Left xs done at → (m : Memory) → HasProgram setting m
          → FindsOwed t m (begin + at) (of_codes f offset (operations done))
      left_found [] done at l m has =
          let whole = l.whole in
          let z : begin + making_size p q name ≡ begin + at = omega arith in
          subst (λ a. FindsOwed t m a (of_codes f offset (operations done))) z
          (subst (FindsOwed t m (begin + making_size p q name)) (owed_is done l.codes)
          (ready_found m has))
      left_found (x ∷ xs) done at l m has = first_found x xs done at l m

      -- ---- a run through it

      record Comes (ops : List UnwindOperation) (at : ℕ) (s : State) : Type 0 where
        beneath : Beneath t s (of_codes f offset ops) top from back others list
        has : HasProgram setting s.memory
        rip : s.cpu.rip ≡ begin + at

      record Runs (n at : ℕ) (ops : List UnwindOperation) (s u : State) : Type 0 where
        keeps : AllKeep t fs n s
        comes : Comes ops at u

      next_good : (x : UnwindOperation) (xs : List UnwindOperation) (done : List UnwindCode)
          (at : ℕ) → Left (x ∷ xs) done at → Good f top (x ∷ operations done)
      next_good x xs done at l = good_done f top (code_of at x ∷ done)
          (steps_of spell framing (at + spelled x) xs) l.good

      -- a code of one instruction
      one_run : (x : UnwindOperation) (xs : List UnwindOperation) (done : List UnwindCode)
          (at : ℕ) (i : Instr) → instructions_of framing x ≡ i ∷ [] → Left (x ∷ xs) done at
          → (s u : State) → StepsTo 1 s u → Comes (operations done) at s
          → Runs 1 (at + spelled x) (x ∷ operations done) s u
      one_run x xs done at i same l s u r c =
          let v = r.0 in
          let st = r.1 in
          let g = next_good x xs done at l in
          let code = subst (λ a. HasCode s.memory a (i ∷ [])) (sym c.rip)
          (subst (HasCode s.memory (begin + at)) same (next_there x xs done at l s.memory
          c.has).0) in
          let d = subst (λ (is' : List Instr). is_step f offset x (spelled_by spell is') ≡ true)
          same l.steps.0.does in
          let enc = (and_parts (is_encodable i) true (subst (λ (is' : List Instr).
          all_encodable is' ≡ true) same (step_encodable framing x is_plan l.emitted.0))).0 in
          let has = program_kept t fs program p q s.memory v.memory
          (record { protection = st.protection; fixed = st.fixed }) c.has in
          let to : s.cpu.rip + sizes (i ∷ []) ≡ begin + (at + spelled x) = omega (
            arith,
            c.rip,
            bytes_sizes (instructions_of framing x),
            ap sizes same,
          ) in
          let flat : s.cpu.rip + sizes (i ∷ []) ≡ s.cpu.rip + size i = omega arith in
          let after = subst (λ a. FindsOwed t v.memory a (of_codes f offset
          (x ∷ operations done))) (sym to ∙ flat)
          (left_found xs (code_of at x ∷ done) (at + spelled x) (next_left x xs done at l)
          v.memory has) in
          let m = made t fs f offset top from back others list is_plan.distance small high s v i
          [] x (operations done) st c.beneath g.ordered g.allowed g.deep
          (follow_done f (code_of at x ∷ done) (steps_of spell framing (at + spelled x) xs)
          l.follow).0 d enc code
          (subst (λ a. FindsOwed t s.memory a (of_codes f offset (operations done))) (sym c.rip)
          (first_found x xs done at l s.memory)) after in
          subst (Runs 1 (at + spelled x) (x ∷ operations done) s) r.2
          (record {
            keeps = keep_first t fs 0 s v st.steps m.keeps tt;
            comes = record { beneath = m.beneath; has = has; rip = m.rip ∙ sym flat ∙ to };
          })

      -- a large allocation
      large_run : (k : ℕ) (xs : List UnwindOperation) (done : List UnwindCode) (at : ℕ)
          → nat_le k 4096 ≡ false → Left (Allocate k ∷ xs) done at → (s u : State)
          → StepsTo (large_turns k) s u → Comes (operations done) at s
          → Runs (large_turns k) (at + spelled (Allocate k)) (Allocate k ∷ operations done) s u
      large_run k xs done at large l s u r c =
          let x = Allocate k in
          let ops = operations done in
          let g = next_good x xs done at l in
          let three : instructions_of framing x
          ≡ instrs.Move W32 (places.Register Rax) (operands.Immediate k)
          ∷ call (begin + at + 10) q.check_stack ∷ falling ∷ [] =
          ap (allocating framing.probe k) large
          ∙ ap (λ (d : ℕ). allocating d k false) (l.probed.0 large).0 in
          let size13 : spelled x ≡ 13 = omega (
            arith,
            bytes_sizes (instructions_of framing x),
            ap sizes three,
            move_size k,
            call_size (begin + at + 10) q.check_stack,
            falling_size,
          ) in
          let found : (m : Memory) (d : ℕ) → d < 13
          → FindsOwed t m (begin + at + d) (of_codes f offset ops) =
          λ m d lt. (let z : begin + (at + d) ≡ begin + at + d = omega arith in
          subst (λ a. FindsOwed t m a (of_codes f offset ops)) z
          (within_found x xs done at l m d (omega arith))) in
          let to : begin + (at + spelled x) ≡ begin + at + 13 = omega arith in
          let is_large : IsLargeAt setting f offset top from back others list is_plan.distance
          small high k (begin + at) ops = record {
            large = leb-false k 4096 large;
            most = l.emitted.0;
            room = g.deep;
            order = g.ordered;
            allowed = g.allowed;
            near = (l.probed.0 large).1;
            there = λ m has. subst (HasCode m (begin + at)) three
                (next_there x xs done at l m has).0;
            first_found = first_found x xs done at l;
            second_found = λ m. found m 5 (omega arith);
            third_found = λ m. found m 10 (omega arith);
            after_found = λ m has. subst (λ a. FindsOwed t m a (of_codes f offset (x ∷ ops))) to
                (left_found xs (code_of at x ∷ done) (at + spelled x)
                (next_left x xs done at l) m has);
          } in
          let m = large_taken setting f offset top from back others list is_plan.distance small
          high k (begin + at) ops is_large s u c.rip c.beneath c.has r in
          record {
            keeps = m.keeps;
            comes = record { beneath = m.beneath; has = m.has; rip = m.rip ∙ sym to };
          }

      code_run : (x : UnwindOperation) (xs : List UnwindOperation) (done : List UnwindCode)
          (at : ℕ) → Left (x ∷ xs) done at → (s u : State) → StepsTo (code_turns x) s u
          → Comes (operations done) at s
          → Runs (code_turns x) (at + spelled x) (x ∷ operations done) s u
      code_run (Push r) xs done at l s u st c = one_run (Push r) xs done at
          (instrs.Push (numbers.register r)) refl l s u st c
      code_run (Allocate k) xs done at l s u st c = by (nat_le k 4096) refl st
        where
          by : (few : Bool) → nat_le k 4096 ≡ few
              → StepsTo (if few then 1 else large_turns k) s u
              → Runs (if few then 1 else large_turns k) (at + spelled (Allocate k))
              (Allocate k ∷ operations done) s u
          by true e st' = one_run (Allocate k) xs done at
              (instrs.Arithmetic arithmetic.Sub W64 (places.Register Rsp) (operands.Immediate k))
              (ap (allocating framing.probe k) e) l s u st' c
          by false e st' = large_run k xs done at e l s u st' c
      code_run SetFrame xs done at l s u st c = one_run SetFrame xs done at
          (instrs.LoadAddress W64 (numbers.register framing.frame)
          (stack_place framing.distance)) refl l s u st c
      code_run (Save r n) xs done at l s u st c = one_run (Save r n) xs done at
          (instrs.Move W64 (places.Memory (stack_place n))
          (operands.Register (numbers.register r))) refl l s u st c
      code_run (SaveVector r n) xs done at l s u st c = absurd l.emitted.0
      code_run (MachineFrame n) xs done at l s u st c = absurd l.emitted.0

      -- all that are left
      prologue_run : (xs : List UnwindOperation) (done : List UnwindCode) (at : ℕ)
          → Left xs done at → (s u : State) → StepsTo (codes_turns xs) s u
          → Comes (operations done) at s
          → Runs (codes_turns xs) (making_size p q name)
          (operations (codes_onto done (steps_of spell framing at xs))) s u
      prologue_run [] done at l s u st c =
          let whole = l.whole in
          let to : begin + at ≡ begin + making_size p q name = omega arith in
          subst (Runs 0 (making_size p q name) (operations done) s) st
          (record {
            keeps = tt;
            comes = record { beneath = c.beneath; has = c.has; rip = c.rip ∙ to };
          })
      prologue_run (x ∷ xs) done at l s u st c =
          let h = steps_split (code_turns x) (codes_turns xs) s u st in
          let m = code_run x xs done at l s h.0 h.1 c in
          let n = prologue_run xs (code_of at x ∷ done) (at + spelled x)
          (next_left x xs done at l) h.0 u h.2 m.comes in
          record {
            keeps = keeps_split t fs (code_turns x) (codes_turns xs) s h.0 h.1 m.keeps n.keeps;
            comes = n.comes;
          }

      -- ---- all of it

      begins : frame ≤ top → Left (turned [] (operations_of framing)) [] 0
      begins room =
          let deep = frame_has_its_size framing in
          let whole = (frame_plan_is setting name b is framed).whole in
          record {
            emitted = all_turned framing [] (operations_of framing) tt
                (emitted_plan framing is_plan);
            steps = are_steps spell spells_all framing is_plan;
            ended = tt;
            codes = planned.codes;
            good = subst (Good f top) (sym (codes_plan spell framing)) (record {
              ordered = ordered (operations_of framing) (ordered_plan framing);
              allowed = is_plan.allowed;
              deep = omega arith;
            });
            follow = subst (AllFollow f) (sym (codes_plan spell framing)) (all_follow f
                (operations_of framing)
                (ordered (operations_of framing) (ordered_plan framing)) (framed_plan framing));
            probed = subst (λ a. AreProbed framing q.check_stack a
                (turned [] (operations_of framing))) (let z : begin ≡ begin + 0 = omega arith in z)
                body_probed;
            whole = (let z : 0 + sizes (prologue_code framing) ≡ making_size p q name =
                omega (arith, making_is) in z);
            there = λ m has. (let z : begin ≡ begin + 0 = omega arith in
                subst (λ a. HasCode m a (prologue_code framing)) z
                (subst (λ l. HasCode m begin (frame_code (body_plan p q name) l)) framed
                (frame_there m has).0));
          }

      -- the frame is there
      pub record PrologueMade (e u : State) : Type 0 where
        pub keeps : AllKeep t fs (prologue_turns framing) e
        pub beneath : Beneath t u owed top from back others list
        pub has : HasProgram setting u.memory
        pub rip : u.cpu.rip ≡ begin + making_size p q name

      pub prologue_made : (e u : State) → e.cpu.rip ≡ begin
          → Beneath t e nothing_owed top from back others list → HasProgram setting e.memory
          → frame ≤ top → StepsTo (prologue_turns framing) e u
          → PrologueMade e u
      prologue_made e u at_begin beneath has room r =
          let o = beneath.owed in
          let close = is_plan.distance in
          let start : Beneath t e (of_codes f offset []) top from back others list = record {
            above = beneath.above;
            count = beneath.count;
            size = beneath.size;
            at = beneath.at;
            owed = record {
              kept = o.kept;
              eight = o.eight;
              room = o.room;
              small = omega arith;
              allowed = refl;
              stack = o.stack;
              framed = tt;
              unsaved = o.unsaved;
            };
          } in
          let m = prologue_run (turned [] (operations_of framing)) [] 0 (begins room) e u r
          (record { beneath = start; has = has; rip = omega arith }) in
          record {
            keeps = m.keeps;
            beneath = subst (λ (x : Owed). Beneath t u x top from back others list)
                (sym (owed_is (codes_onto [] (prologue spell framing)) planned.codes))
                m.comes.beneath;
            has = m.comes.has;
            rip = m.comes.rip;
          }
