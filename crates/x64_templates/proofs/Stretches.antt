-- Several instructions of a body, one after another.
use Rattle.std.proofs.Common.{◌≡◌, ℕ, zero, suc, ◌+◌, ◌<◌, ◌≤◌, Bool, true, false, cond, List, [], ◌∷◌, length, get_or, Option, Some, None, refl, sym, ap, subst, ◌∙◌, arith, inl, inr}
use Rattle.std.specs.Prelude.{◌⊎◌}
use Rattle.std.proofs.lemmas.Bool.{cases_lt, lt-ltb, le-ltb}
use Rattle.x64_templates.specs.Words.{Protection, is_writable, Memory, Instr, Flags, State, IsCodeAt, spelled, Instruction, BodyState, InstructionEffect, Next, JumpsTo, Faults, step, run, LocalRegisters, OtherRegisters, MachineView, machine, sizes, Links, template, template_size, offset_of, code_from, InTemporaries, InLocals, HasCode, HasSlots, IsNear, compute_code, operands_code, finish_code, test_code, Reaches, FramePlace, Roomy, FrameHolds, AreArrived, ChangesOwn, ReachesBody, InstructionDone, IsSpare, SparesArrivals, IsLinked, ReservedAccess, NeedsDispatcher, BodyPoint, continued, RunsTo, RunsAllTo}
use Rattle.x64_templates.proofs.PlacedCode.{Encodable, no_turns, reaches_then}
use Rattle.linear_code.specs.declared.instruction.Instruction.TheVariants as instructions
use Rattle.x64_templates.specs.Epilogues.{IsReturn}
use Rattle.x64_templates.proofs.Lemmas.{sizes_spelled, body_sizes, offset_next, template_sizes, jump_if_zero_size}
use Rattle.x64_templates.proofs.Cells.{sp_of}
use Rattle.x64_templates.proofs.Bodies.{changes_then}
use Rattle.x64_templates.proofs.Locals.{unused_same, unused_then}
use Rattle.x64_templates.proofs.Encoded.{encodable_of, fine_both, operands_fine, finish_fine}
use Rattle.x64_templates.proofs.Flows.{separator_flow, jump_flow, jump_if_zero_flow}
use Rattle.x64_templates.proofs.Linked.{template_placed}
use Rattle.x64_templates.proofs.SparedRegisters.{run_spares, template_spares, arrived_after}
use Rattle.x64_templates.proofs.InstructionRuns.{LabelsNear, jump_template, body_most, labels_near, body_instruction_run}

-- ---- code stays where it is

bytes_stay : (p : FramePlace) (l : LocalRegisters) (m m' : Memory) (b : BodyState) (at : ℕ)
    (bytes : List ℕ)
    → ChangesOwn p m m' → FrameHolds p l m b → ((a : ℕ) → at ≤ a → a < at + length bytes
    → p.reserved a ≡ true) → IsCodeAt m at bytes → IsCodeAt m' at bytes
bytes_stay p l m m' b at [] c h own s = tt
bytes_stay p l m m' b at (x ∷ bytes) c h own s =
    let off = λ (is : InTemporaries p.layout p.counts p.sp at
    ⊎ InLocals p.layout p.counts p.base at). let q : true ≡ false = sym (h.writable at is)
    ∙ s.0.fixed in let z : ⊥ = absurd cc in z in (
      record {
        byte = c.byte at (own at (omega arith) (omega arith)) off ∙ s.0.byte;
        executes = ap (λ (f : ℕ → Protection). (f at).execute) c.protection ∙ s.0.executes;
        fixed = ap (λ (f : ℕ → Protection). is_writable (f at).rights) c.protection ∙ s.0.fixed;
      },
      bytes_stay p l m m' b (at + 1) bytes c h (λ a lo hi. own a (omega arith) (omega arith)) s.1,
    )

pub code_stays : (p : FramePlace) (l : LocalRegisters) (m m' : Memory) (b : BodyState) (at : ℕ)
    (code : List Instr)
    → ChangesOwn p m m' → FrameHolds p l m b → ((a : ℕ) → at ≤ a → a < at + sizes code
    → p.reserved a ≡ true) → HasCode m at code → HasCode m' at code
code_stays p l m m' b at code c h own s =
    let e = sizes_spelled code in
    record {
      is_there = bytes_stay p l m m' b at (spelled code) c h (λ a lo hi. own a lo (omega arith))
          s.is_there;
      placed = s.placed;
    }

pub linked_stays : (p : FramePlace) (k : Links) (l : LocalRegisters) (m m' : Memory) (start : ℕ)
    (body : List Instruction) (b : BodyState) → ChangesOwn p m m' → FrameHolds p l m b
    → IsLinked p k m start body → IsLinked p k m' start body
linked_stays p k r m m' start body b c h l =
    let e = body_sizes k p.layout start body in
    record {
      code = code_stays p r m m' b start (code_from k p.layout start body) c h
          (λ a lo hi. l.own a lo (omega arith)) l.code;
      labels = l.labels;
      small = l.small;
      high = l.high;
      own = l.own;
      slots = l.slots;
      kept = l.kept;
    }

-- ---- one stretch after another

pub follows_then : (p : FramePlace) (m n : ℕ) (s : State) (mid to : ℕ) (others : OtherRegisters)
    (locals : LocalRegisters) (b c : BodyState) → (g : ReachesBody p m s mid others locals b)
    → ReachesBody p n (machine g.after mid g.flags) to others g.after.locals c
    → ReachesBody p (m + n) s to others locals c
follows_then p m n s mid to others locals b c g r = record {
  after = r.after;
  flags = r.flags;
  comes = reaches_then m n s (machine g.after mid g.flags) (machine r.after to r.flags) g.comes
      r.comes;
  rest = r.rest;
  locals = unused_then p.layout locals g.after.locals r.after.locals g.locals r.locals;
  holds = r.holds;
  changes = changes_then p.layout p.counts p.reserved p.sp p.base s.memory g.after.memory
      r.after.memory g.changes r.changes;
}

runs_alike : (p : FramePlace) (n : ℕ) (s : State) (to : ℕ) (rest others : OtherRegisters)
    (locals : LocalRegisters) (b : BodyState) → rest ≡ others → RunsAllTo p n s to rest locals b
    → RunsAllTo p n s to others locals b
runs_alike p n s to rest others locals b e g = record {
  turns = g.turns;
  least = g.least;
  most = g.most;
  follows = record {
    after = g.follows.after;
    flags = g.follows.flags;
    comes = g.follows.comes;
    rest = g.follows.rest ∙ e;
    locals = g.follows.locals;
    holds = g.follows.holds;
    changes = g.follows.changes;
  };
  arrived = g.arrived;
}

nothing_made : (p : FramePlace) (v : MachineView) (at : ℕ) (f : Flags) (b : BodyState)
    → AreArrived p v → FrameHolds p v.locals v.memory b
    → RunsAllTo p 0 (machine v at f) at v.rest v.locals b
nothing_made p v at f b here h = record {
  turns = 0;
  least = omega arith;
  most = omega arith;
  follows = record {
    after = v;
    flags = f;
    comes = no_turns (machine v at f) (machine v at f) refl;
    rest = refl;
    locals = unused_same p.layout v.locals;
    holds = h;
    changes = record { protection = refl; byte = λ a own out. refl; bytes = λ x. x };
  };
  arrived = here;
}

made_then : (p : FramePlace) (m n : ℕ) (v : MachineView) (at : ℕ) (f : Flags) (mid to : ℕ)
    (b c : BodyState) → (g : RunsTo p m (machine v at f) mid v.rest v.locals b)
    → RunsAllTo p n (machine g.follows.after mid g.follows.flags) to v.rest g.follows.after.locals c
    → RunsAllTo p (suc n) (machine v at f) to v.rest v.locals c
unfolding follows_then
made_then p m n v at f mid to b c g r =
    let l1 = g.least in let m1 = g.most in let l2 = r.least in let m2 = r.most in
    record {
      turns = m + r.turns;
      least = omega arith;
      most = omega arith;
      follows = follows_then p m r.turns (machine v at f) mid to v.rest v.locals b c g.follows
          r.follows;
      arrived = r.arrived;
    }

-- ---- the body

abbrev Runs : FramePlace → Links → ℕ → List Instruction → ℕ → Type 0
Runs p k start body n = (number : ℕ) (v : MachineView) (f : Flags) (b : BodyState) (last : ℕ)
    (c : BodyState) → IsLinked p k v.memory start body → AreArrived p v → sp_of v ≡ p.sp
    → FrameHolds p v.locals v.memory b
    → run p.reserved body n number b ≡ Some (last, c)
    → RunsAllTo p n (machine v (start + offset_of p.layout body number) f)
    (start + offset_of p.layout body last) v.rest v.locals c

same_point : (x y : ℕ) (b c : BodyState) → ◌≡◌ {A = Option BodyPoint} (Some (x, b)) (Some (y, c))
    → (x ≡ y) × (b ≡ c)
same_point x y b c e = (ap (number_of x) e, ap (body_of b) e)
  where
    number_of : ℕ → Option BodyPoint → ℕ
    number_of d None = d
    number_of d (Some q) = q.0

    body_of : BodyState → Option BodyPoint → BodyState
    body_of d None = d
    body_of d (Some q) = q.1

-- where the template of an instruction has been run, parameters are still in their registers
abbrev Arrives : FramePlace → Links → MachineView → ℕ → Flags → Instruction → Type 0
Arrives p k v here f instruction =
    (turns to : ℕ) (after : MachineView) (g : Flags)
    → turns ≡ length (template k p.layout here instruction)
    → Reaches turns (machine v here f) (machine after to g) → AreArrived p after

after_line : (p : FramePlace) (k : Links) (start : ℕ) (body : List Instruction) (n number : ℕ)
    (v : MachineView) (f : Flags) (b : BodyState) (last : ℕ) (c : BodyState)
    (instruction : Instruction) (s : InstructionEffect) → Runs p k start body n
    → IsLinked p k v.memory start body → sp_of v ≡ p.sp → FrameHolds p v.locals v.memory b
    → number < length body → instruction ≡ get_or body number instructions.Separator
    → Arrives p k v (start + offset_of p.layout body number) f instruction
    → InstructionDone p k v (start + offset_of p.layout body number) f b instruction s
    → continued (run p.reserved body n) number s ≡ Some (last, c)
    → RunsAllTo p (suc n) (machine v (start + offset_of p.layout body number) f)
    (start + offset_of p.layout body last) v.rest v.locals c
after_line p k start body n number v f b last c instruction (Next d) rec l at h lt is here done e =
    let y = p.layout in
    let here = start + offset_of y body number in
    let next : here + template_size y instruction
    ≡ start + offset_of y body (number + 1) = step_to (number + 1) (omega arith) in
    let turns = length (template k y here instruction) in
    let g : RunsTo p turns (machine v here f) (start + offset_of y body (number + 1)) v.rest
    v.locals
    d = subst (λ a. RunsTo p turns (machine v here f) a v.rest v.locals d) next done in
    go turns refl g e
  where
    step_to : (j : ℕ) → j ≡ suc number → start + offset_of p.layout body number
        + template_size p.layout instruction ≡ start + offset_of p.layout body j
    step_to j q =
        let o = offset_next p.layout body number instructions.Separator lt in
        let t : template_size p.layout instruction
        ≡ template_size p.layout (get_or body number instructions.Separator) = ap
        (template_size p.layout) is in
        let z : offset_of p.layout body j ≡ offset_of p.layout body (suc number) = ap
        (offset_of p.layout body) q in
        omega arith

    go : (m : ℕ)
        → m ≡ length (template k p.layout (start + offset_of p.layout body number) instruction)
        → (g : RunsTo p m (machine v (start + offset_of p.layout body number) f)
        (start + offset_of p.layout body (number + 1)) v.rest v.locals d)
        → run p.reserved body n (number + 1) d ≡ Some (last, c)
        → RunsAllTo p (suc n) (machine v (start + offset_of p.layout body number) f)
        (start + offset_of p.layout body last) v.rest v.locals c
    go m same g e = made_then p m n v (start + offset_of p.layout body number) f
        (start + offset_of p.layout body (number + 1)) (start + offset_of p.layout body last) d c g
        (runs_alike p n (machine g.follows.after (start + offset_of p.layout body (number + 1))
        g.follows.flags) (start + offset_of p.layout body last) g.follows.after.rest v.rest
        g.follows.after.locals c g.follows.rest (rec (number + 1) g.follows.after g.follows.flags d
        last c
        (linked_stays p k v.locals v.memory g.follows.after.memory start body b g.follows.changes h
        l) (here m (start + offset_of p.layout body (number + 1)) g.follows.after g.follows.flags
        same
        g.follows.comes)
        (ap (λ (r : OtherRegisters). r.rsp) g.follows.rest ∙ at) g.follows.holds e))
after_line p k start body n number v f b last c instruction (JumpsTo d label) rec l at h lt is here
    done e =
    let turns = length (template k p.layout (start + offset_of p.layout body number) instruction) in
    go turns refl (subst (λ a. RunsTo p turns (machine v (start + offset_of p.layout body number) f)
    a
    v.rest v.locals d) (l.labels label) done) e
  where
    go : (m : ℕ)
        → m ≡ length (template k p.layout (start + offset_of p.layout body number) instruction)
        → (g : RunsTo p m (machine v (start + offset_of p.layout body number) f)
        (start + offset_of p.layout body label) v.rest v.locals d)
        → run p.reserved body n label d ≡ Some (last, c)
        → RunsAllTo p (suc n) (machine v (start + offset_of p.layout body number) f)
        (start + offset_of p.layout body last) v.rest v.locals c
    go m same g e = made_then p m n v (start + offset_of p.layout body number) f
        (start + offset_of p.layout body label) (start + offset_of p.layout body last) d c g
        (runs_alike p n (machine g.follows.after (start + offset_of p.layout body label)
        g.follows.flags) (start + offset_of p.layout body last) g.follows.after.rest v.rest
        g.follows.after.locals c g.follows.rest (rec label g.follows.after g.follows.flags d last c
        (linked_stays p k v.locals v.memory g.follows.after.memory start body b g.follows.changes h
        l) (here m (start + offset_of p.layout body label) g.follows.after g.follows.flags same
        g.follows.comes)
        (ap (λ (r : OtherRegisters). r.rsp) g.follows.rest ∙ at) g.follows.holds e))
after_line p k start body n number v f b last c instruction (Faults code access) rec l at h lt is
    here done e =
    absurd cc
after_line p k start body n number v f b last c instruction (ReservedAccess a) rec l at h lt is here
    done e =
    absurd cc
after_line p k start body n number v f b last c instruction NeedsDispatcher rec l at h lt is here
    done e =
    absurd cc

-- an instruction that is followed by another one, or jumps, is no return
no_return : (p : FramePlace) (i : Instruction) (b : BodyState) (n number last : ℕ)
    (body : List Instruction) (c : BodyState)
    → continued (run p.reserved body n) number (step p.reserved i b) ≡ Some (last, c)
    → IsReturn i → ⊥
no_return p (instructions.Return from) b n number last body c e is = absurd cc
no_return p i b n number last body c e is = absurd is

module _ (p : FramePlace) (k : Links) (room : Roomy p) where
  -- its template can be decoded
  pub template_encodable : (i : Instruction) (here : ℕ) → HasSlots p.counts i
      → LabelsNear k p.layout here i → IsSpare i → (IsReturn i → ⊥)
      → Encodable (template k p.layout here i)
  template_encodable (instructions.Compute to o first second) here has near e goes =
      encodable_of (compute_code p.layout to o first second)
      (fine_both (operands_code p.layout o first second) (finish_code p.layout o to)
      (operands_fine p.layout p.counts p.sp p.base o first second room has.1 has.2)
      (finish_fine p.layout p.counts p.sp p.base o to room has.0))
  template_encodable (instructions.Jump label) here has near e goes =
      (jump_flow here (k.label label)
      (subst (λ a. IsNear a (k.label label)) (sym (jump_template p.layout here label))
      near)).spelling
  template_encodable (instructions.JumpIfZero slot label) here has near e goes =
      let a : sizes (test_code p.layout slot) + 6
      ≡ template_size p.layout (instructions.JumpIfZero slot label) = sym
      (jump_if_zero_size p.layout slot here (k.label label))
      ∙ template_sizes k p.layout here (instructions.JumpIfZero slot label) in
      let z : here + template_size p.layout (instructions.JumpIfZero slot label)
      ≡ here + sizes (test_code p.layout slot) + 6 = omega arith in
      (jump_if_zero_flow p.layout p.counts p.sp p.base room slot here (k.label label) has
      (subst (λ x. IsNear x (k.label label)) z near)).spelling
  template_encodable instructions.Separator here has near e goes = separator_flow.spelling
  template_encodable (instructions.Return from) here has near e goes = absurd (goes tt)
  template_encodable i here has near e goes = absurd e

  -- so parameters that stay in registers are there after it
  arrives : (start : ℕ) (body : List Instruction) (number : ℕ) (v : MachineView) (f : Flags)
      → SparesArrivals p.layout body → IsLinked p k v.memory start body → number < length body
      → (IsReturn (get_or body number instructions.Separator) → ⊥) → AreArrived p v
      → Arrives p k v (start + offset_of p.layout body number) f
      (get_or body number instructions.Separator)
  arrives start body number v f (inl none) l lt goes here turns to after g same comes =
      λ i low. absurd (omega arith)
  arrives start body number v f (inr leaf) l lt goes here turns to after g same comes =
      let y = p.layout in
      let i = get_or body number instructions.Separator in
      let at = start + offset_of y body number in
      let next = offset_next y body number instructions.Separator lt in
      let most = body_most y body (suc number) in
      let near = labels_near k y start body number i l.labels l.high l.small (omega arith) in
      let spare = leaf.spare number lt in
      arrived_after p v after
      (run_spares (template k y at i) (machine v at f) (machine after to g)
      (template_encodable i at (l.slots number lt) near spare goes)
      (template_spares k y at i leaf.none leaf.in_frame spare (l.kept number lt) goes)
      (template_placed k y v.memory start body number instructions.Separator l.code lt)
      (subst (λ n. Reaches n (machine v at f) (machine after to g)) same comes)) here

-- n instructions of a body take n to 16 n turns, and lead where they lead
pub body_runs : (p : FramePlace) (k : Links) (start : ℕ) (body : List Instruction) (n : ℕ) → Roomy p
    → SparesArrivals p.layout body
    → (number : ℕ) (v : MachineView) (f : Flags) (b : BodyState) (last : ℕ) (c : BodyState)
    → IsLinked p k v.memory start body → AreArrived p v → sp_of v ≡ p.sp
    → FrameHolds p v.locals v.memory b
    → run p.reserved body n number b ≡ Some (last, c)
    → RunsAllTo p n (machine v (start + offset_of p.layout body number) f)
    (start + offset_of p.layout body last) v.rest v.locals c
unfolding run
body_runs p k start body zero room sparing number v f b last c l arrived at h e =
    let q = same_point number last b c e in
    subst (λ x. RunsAllTo p 0 (machine v (start + offset_of p.layout body number) f)
    (start + offset_of p.layout body x) v.rest v.locals c) q.0
    (subst (λ d. RunsAllTo p 0 (machine v (start + offset_of p.layout body number) f)
    (start + offset_of p.layout body number) v.rest v.locals d) q.1
    (nothing_made p v (start + offset_of p.layout body number) f b arrived h))
body_runs p k start body (suc n) room sparing number v f b last c l arrived at h e =
    let instruction = get_or body number instructions.Separator in
    let s = step p.reserved instruction b in
    elim (cases_lt number (length body)) [
      | inl lt ↦
          let there : continued (run p.reserved body n) number s
          ≡ Some (last, c) = sym (ap (λ (t : Bool). cond t
          (continued (run p.reserved body n) number s) None) (lt-ltb number (length body) lt))
          ∙ e in
          after_line p k start body n number v f b last c instruction s
          (body_runs p k start body n room sparing) l at h lt refl
          (arrives p k room start body number v f sparing l lt
          (no_return p instruction b n number last body c there) arrived)
          (body_instruction_run p k start body number v f b room l.labels l.small l.high lt
          (l.slots number lt) (l.kept number lt) arrived at h l.code) there
      | inr ge ↦
          let never : ◌≡◌ {A = Option BodyPoint} None (Some (last, c)) = sym
          (ap (λ (t : Bool). cond t (continued (run p.reserved body n) number s) None)
          (le-ltb number (length body) ge)) ∙ e in
          absurd cc
    ]
