-- RAX goes to the temporary after those that a body has kept: where what it called has returned,
-- the next instruction begins.
use Rattle.std.proofs.Common.{◌≡◌, ℕ, zero, suc, ◌+◌, ◌^◌, ◌<◌, Bool, true, false, cond, Option, Some, None, List, [], ◌∷◌, ◌++◌, length, refl, sym, ap, subst, ◌∙◌, arith, inl, inr, length-append}
use Rattle.std.specs.Prelude.{◌⊎◌, slice_get, slice_index}
use Rattle.std.proofs.lemmas.Bool.{eq-eqb, ne_eqb, false≢true}
use Rattle.std.proofs.lemmas.Option.{slice_get_within}
use Rattle.match_turns.specs.Words.{kept_of, Event, Rax, Rsp, Instr, Context, State, register, Functions, distance, Funclet, arrivals, Temporary, Instruction, BodyState, with_slot, LinearProgram, LinearBody, BodyName, FuncletBody, body_of, Frame, Item, Waits, Configuration, Layout, sizes, keep, template, machine, HasCode, ReachesBody, StackItem, ImagePlan, Activation, locals_of, On, on_top, IsWellFormed, AllKeep, HaveRoom, Sites, links_of, seen_by_templates, counts_of, OwnerHasFrame, with_values, Setting, IsMachineMemory, OtherRegisters, IsWellMade, now_of, Store, host_list}
use Rattle.x64_templates.specs.Runs.{Reaches}
use Rattle.match_turns.proofs.Lemmas.{sizes_append, template_sizes, code_split, call_ends, keep_flow, first_in_code, waits_in_body, locals_count, same_activations, Keeps, reaches_keeps, stays_well_formed, IsCounted, is_machine, room_here, holds_here, slots_here, locals_here, leaves_same, Leaves, Ran, represents_next, is_here, is_after, ends_at, RunsKeep, one_piece, code, v, frame, slots, template_here, next_address, sp_is, silent_at, Surroundings, label_near}
use Rattle.template_code.specs.ColdParts.{falls_through}
use Rattle.x64_templates.specs.Epilogues.{IsReturn}
use Rattle.lowering_invariants.specs.ReturnRegions.{is_call}
use Rattle.match_bodies.specs.Bodies.{RepresentsAt}
use Rattle.match_bodies.proofs.Places.LeafRegisters.{framed_hold}
use Rattle.match_bodies.proofs.Steps.BodyResumption.{again}
use Rattle.match_bodies.proofs.Places.HomeSpace.{CallerHasFrame}
use Rattle.match_bodies.proofs.Steps.BodyViews.{placed, count}
use Rattle.match_bodies.proofs.Places.ArrivedParameters.{no_arrivals}

-- no exception was just taken over
pub nothing : (landed : Option ℕ) (code : ℕ) → landed ≡ None → landed ≡ Some code → ⊥
nothing landed code e h = let z : ◌≡◌ {A = Option ℕ} None (Some code) = sym e ∙ h in cc

-- ---- one more temporary

got_more : (xs : List ℕ) (x : ℕ) (i v : ℕ) → slice_get (xs ++ x ∷ []) i ≡ Some v
    → ((i < length xs) × (slice_get xs i ≡ Some v)) ⊎ ((i ≡ length xs) × (x ≡ v))
got_more [] x zero v e = inr (refl, the_same x v e)
  where
    the_same : (a b : ℕ) → Some a ≡ Some b → a ≡ b
    the_same a b e = cc
got_more [] x (suc i) v e = cc
got_more (z ∷ xs) x zero v e = inl (omega arith, e)
got_more (z ∷ xs) x (suc i) v e = elim (got_more xs x i v e) [
  | inl w ↦ (let lt = w.0 in inl (omega arith, w.1))
  | inr w ↦ (let n = w.0 in inr (omega arith, w.1))
]

-- after a write of the temporary past the last, the slots are those of a list that is longer by one
longer_leaves : (p : ImagePlan) (name : BodyName) (b : LinearBody) (d : BodyState)
    (old values ts : List ℕ) (v : ℕ) → Leaves p name b d old values ts
    → length ts < b.temporaries → Leaves p name b (record
    { slots = with_slot d.slots (Temporary (length ts)) v; memory = d.memory }) old values
    (ts ++ v ∷ [])
longer_leaves p name b d old values ts v l lt = record {
  count = l.count;
  locals = l.locals;
  others = l.others;
  few = omega (arith, length-append ts (v ∷ []));
  temporaries = λ i x e. elim (got_more ts v i x e) [
    | inl w ↦ (let small = w.0 in ap (λ (c : Bool). cond c v (d.slots (Temporary i)))
        (ne_eqb i (length ts) (λ n. absurd (omega arith))) ∙ l.temporaries i x w.1)
    | inr w ↦ ap (λ (c : Bool). cond c v (d.slots (Temporary i))) (eq-eqb i (length ts) w.0) ∙ w.1
  ];
}

-- in one turn, which keeps the shadow, it comes to where a configuration begins
pub record Resumes (t : Functions) (fs : List Funclet) (program : LinearProgram) (p : ImagePlan)
    (q : Sites) (u : State) (c : Configuration) : Type 0 where
  pub state : State
  pub reaches : Reaches 1 u state
  pub silent : arrivals state.cpu (distance t.base state.cpu.rip) 1 fs ≡ []
  pub begins : RepresentsAt t fs program p q state c
  pub keeps : AllKeep t fs 1 u

-- a body that calls has a frame
pub caller_framed : (setting : Setting) → IsWellMade setting.program setting.plan
    → (name : BodyName) (b : LinearBody) (label : ℕ) (i : Instruction)
    → body_of setting.program name ≡ Some b → slice_get b.code label ≡ Some i → is_call i ≡ true
    → setting.plan.leaf name ≡ false
caller_framed setting made name b label i there at calls = by (setting.plan.leaf name) refl
  where
    by : (leaf : Bool) → setting.plan.leaf name ≡ leaf → setting.plan.leaf name ≡ false
    by false e = e
    by true e = absurd (false≢true (sym (made.leaves name b label i there e at) ∙ calls))

module _ (setting : Setting) (roomy : HaveRoom setting.program) where
  open setting use {functions as t, funclets as fs, program, plan as p, sites as q, image}

  -- what the frames below a body are like: a leaf's caller has one, and the function whose locals a
  -- funclet works on
  pub record IsSurrounded (name : BodyName) (activation : ℕ) (items : List Item) (depth : ℕ) : Type
      0 where
    pub caller : p.leaf name ≡ true → CallerHasFrame p items
    pub owner : (k : ℕ) → name ≡ FuncletBody k → (acts : List Activation) → length acts ≡ depth
        → OwnerHasFrame t fs program p activation items acts

  -- linear code where the body that waited has the result
  abbrev pub answered : Frame → List Item → Store → List Activation → List Event → ℕ
      → Configuration
  answered w items source acts es v = on_top (again w (w.next + 1) (w.temporaries ++ v ∷ [])
      w.landed) items source acts es

  -- where what the body called has returned RSP and the nonvolatile registers are the body's, the
  -- list is there from there on, and RIP is at the code that keeps the result
  module _ (u : State) (w : Frame) (items : List Item) (acts : List Activation) (source : Store)
      (es : List Event) (above : Context) (is : List StackItem)
      (on : On t fs program p u.memory above is (Waits w ∷ items) acts)
      (registers : kept_of u.cpu.registers ≡ above.kept)
      (well_formed : IsWellFormed (host_list p source) u)
      (memory : IsMachineMemory setting u.memory source.memory)
      (o : LinearBody) (there : body_of program w.body ≡ Some o) (i : Instruction) (first : ℕ)
      (done : List Instr) (calls : slice_get o.code w.next ≡ Some i) (goes : IsReturn i → ⊥)
      (falls : falls_through i ≡ true)
      (parts : template (links_of p q w.body) (p.layout w.body) (p.address w.body w.next) i
      ≡ done ++ keep (p.layout w.body) (Temporary first))
      (fits : first < o.temporaries) (within : w.next + 1 < length o.code)
      (held : length w.temporaries ≡ first) (free : w.landed ≡ None)
      (back : u.cpu.rip ≡ p.address w.body w.next + sizes done)
      (framed : p.leaf w.body ≡ false) where
    -- the same state, but that the instruction of the call begins
    abbrev pub earlier : State
    earlier = record u {
      cpu = record {
        registers = u.cpu.registers;
        rip = p.address w.body w.next;
        flags = u.cpu.flags;
      };
    }

    abbrev pub caller : Configuration
    caller = on_top w items source acts es

    small_address : p.address w.body w.next < 2 ^ 64
    small_address = let a = well_formed.rip_small in omega (arith, back)

    pub waits : RepresentsAt t fs program p q earlier caller
    waits =
        let lt = slice_get_within o.code w.next i calls in
        record {
          rip = refl;
          well_formed = record {
            rip_small = small_address;
            count = well_formed.count;
            small = well_formed.small;
            listed = well_formed.listed;
          };
          memory = memory;
          body = waits_in_body t fs program p q image earlier above is w items acts w.next
              w.temporaries w.landed source es on registers
              (first_in_code t fs program p q image w.body o w.next there lt) (record {
                rip_small = small_address;
                count = well_formed.count;
                small = well_formed.small;
                listed = well_formed.listed;
              }) (λ at end h. h)
              (framed_hold (now_of true u.cpu) (p.register w.body) (p.leaf w.body) acts w.body
              framed);
          landed = λ code e. absurd (nothing w.landed code free e);
        }

    module _ (counted : IsCounted setting caller)
        (surrounded : IsSurrounded w.body w.activation items (length acts)) where
      around : Surroundings setting roomy earlier caller waits counted
      around = record {
        caller = surrounded.caller;
        owner = λ k e. surrounded.owner k e waits.body.acts
            (omega (
              arith,
              locals_count waits.body.acts,
              locals_count acts,
              ap length waits.body.store,
            ));
      }

      same_code : (a b : LinearBody) → Some a ≡ Some b → a ≡ b
      same_code a b e = cc

      abbrev body : LinearBody
      body = waits.body.slots.code

      is_body : o ≡ body
      is_body = same_code o body (sym there ∙ waits.body.slots.body)

      calls_here : slice_get body.code w.next ≡ Some i
      calls_here = subst (λ (b : LinearBody). slice_get b.code w.next ≡ Some i) is_body calls

      abbrev place : ℕ
      place = p.address w.body w.next

      abbrev layout : Layout
      layout = p.layout w.body

      -- the code after the call
      keeps_code : HasCode u.memory u.cpu.rip (keep layout (Temporary first))
      keeps_code =
          let whole = template_here setting roomy earlier caller waits counted i
          calls_here in
          let after = code_split u.memory place done (keep layout (Temporary first))
          (subst (HasCode u.memory place) parts whole) in
          subst (λ x. HasCode u.memory x (keep layout (Temporary first))) (sym back) after.1

      abbrev result : ℕ
      result = register u.cpu Rax

      same_state : u ≡ machine (seen_by_templates u) u.cpu.rip u.cpu.flags
      same_state = is_machine u well_formed.count

      room_slots : first < body.temporaries
      room_slots = subst (λ (b : LinearBody). first < b.temporaries) is_body fits

      -- RAX goes to its temporary
      kept : ReachesBody (frame setting roomy earlier caller waits counted) 1
          (machine (seen_by_templates u) u.cpu.rip u.cpu.flags)
          (u.cpu.rip + sizes (keep layout (Temporary first))) (seen_by_templates u).rest
          (seen_by_templates u).locals
          (record {
            slots = with_slot (slots setting roomy earlier caller waits counted).slots (Temporary
                first) result;
            memory = source.memory;
          })
      kept =
          let r = room_slots in
          call_ends (frame setting roomy earlier caller waits counted) (Temporary first)
          (seen_by_templates u) u.cpu.rip u.cpu.flags
          (slots setting roomy earlier caller waits counted)
          (room_here setting earlier caller waits counted) (omega arith) tt
          (result_small u.cpu.registers well_formed.count well_formed.small)
          (sp_is setting roomy earlier caller waits counted)
          (holds_here setting earlier caller waits counted) keeps_code
        where
          result_small : (rs : List ℕ) → length rs ≡ 16
              → ((i : ℕ) → i < length rs → slice_index rs i < 2 ^ 64) → slice_index rs 0 < 2 ^ 64
          result_small rs n small = small 0 (omega arith)

      next_place : u.cpu.rip + sizes (keep layout (Temporary first)) ≡ p.address w.body (w.next + 1)
      next_place =
          let n = next_address setting roomy earlier caller waits counted i
          calls_here falls in
          let z = template_sizes (links_of p q w.body) layout place i in
          let e = ap sizes parts in
          omega (arith, back, n, z, e, sizes_append done (keep layout (Temporary first)))

      next_small : p.address w.body (w.next + 1) < 2 ^ 64
      next_small =
          let n = (label_near setting w.body o there (w.next + 1)).1 in
          omega arith

      abbrev values_here : List ℕ
      values_here = (placed setting earlier caller waits counted).values

      as_they_were : Leaves p w.body body (slots setting roomy earlier caller waits counted)
          values_here values_here w.temporaries
      as_they_were =
          let s = slots_here setting earlier caller waits counted in
          let r = room_slots in
          record {
            count = count setting earlier caller waits counted;
            locals = λ i lt reached. s.locals i lt reached ∙ ap (λ xs. slice_index xs i)
                (locals_here setting earlier caller waits counted);
            others = λ k e. leaves_same (p.register w.body) 0 values_here;
            few = omega (arith, held);
            temporaries = s.temporaries;
          }

      leaves : Leaves p w.body body (record {
        slots = with_slot
            (slots setting roomy earlier caller waits counted).slots (Temporary first) result;
        memory = source.memory;
      }) values_here values_here (w.temporaries ++ result ∷ [])
      leaves =
          let r = room_slots in
          subst (λ n. Leaves p w.body body (record {
            slots = with_slot
                (slots setting roomy earlier caller waits counted).slots (Temporary n) result;
            memory = source.memory;
          }) values_here values_here (w.temporaries ++ result ∷ [])) held
          (longer_leaves p w.body body (slots setting roomy earlier caller waits counted)
          values_here values_here w.temporaries result as_they_were (omega (arith, held)))

      same_locals : locals_of (with_values waits.body.acts w.activation values_here)
          ≡ locals_of acts
      same_locals =
          let n = slice_get_within (locals_of waits.body.acts) w.activation values_here
          (placed setting earlier caller waits counted).number in
          let k = locals_count waits.body.acts in
          same_activations waits.body.acts w.activation values_here (omega arith)
          (placed setting earlier caller waits counted).number ∙ sym waits.body.store

      -- the code that keeps the result keeps the shadow
      keeps_shadow : RunsKeep setting earlier caller waits counted 1 u
      keeps_shadow =
          let room = room_here setting earlier caller waits counted in
          one_piece setting earlier caller waits counted i calls_here goes done
          (keep layout (Temporary first)) u parts
          (keep_flow layout (counts_of body) (register u.cpu Rsp)
          (placed setting earlier caller waits counted).base room (Temporary first) room_slots)
          (record {
            rip = back;
            registers = refl;
            is_there = is_here setting earlier caller waits counted;
          })

      -- in one turn, which keeps the shadow, the next instruction begins
      pub resumes : Resumes t fs program p q u (answered w items source acts es result)
      resumes =
          let r = subst (λ x. ReachesBody (frame setting roomy earlier caller waits counted) 1 x
          (u.cpu.rip + sizes (keep layout (Temporary first))) (seen_by_templates u).rest
          (seen_by_templates u).locals (record {
            slots = with_slot (slots setting roomy earlier caller waits counted).slots (Temporary
                first) result;
            memory = source.memory;
          })) (sym same_state) kept in
          let rip = u.cpu.rip + sizes (keep layout (Temporary first)) in
          let z : State = machine r.after rip r.flags in
          let k = reaches_keeps 1 u z r.comes in
          let keeps : Keeps earlier z = record {
            protection = k.protection;
            fixed = k.fixed;
            count = k.count;
            small = k.small;
            handlers = k.handlers;
          } in
          let d : BodyState = record {
            slots = with_slot
                (slots setting roomy earlier caller waits counted).slots (Temporary first) result;
            memory = source.memory;
          } in
          let ts = w.temporaries ++ result ∷ [] in
          let ran : Ran setting earlier caller waits counted z d values_here
          ts = record {
            changed = record { changes = r.changes; keeps = keeps };
            holds = r.holds;
            kept = record { rest = r.rest; locals = r.locals };
            leaves = leaves;
          } in
          let inside : w.next + 1 < length body.code = subst
          (λ (b : LinearBody). w.next + 1 < length b.code) is_body within in
          let small : rip < 2 ^ 64 = let n = next_small in omega (arith, next_place) in
          let begins = represents_next setting earlier caller waits counted z d
          values_here ts ran (w.next + 1) w.landed es next_place inside
          (stays_well_formed earlier z keeps small waits.well_formed)
          (λ code e. absurd (nothing w.landed code free e)) around.caller around.owner
          (no_arrivals setting w.body o there framed earlier.cpu z.cpu) in
          let ends = ends_at setting earlier caller waits counted z (w.next + 1)
          next_place inside (ap (λ (o : OtherRegisters). o.rsp) r.rest)
          (is_after setting earlier caller waits counted z d values_here ts ran around.caller
          around.owner) in
          record {
            state = z;
            reaches = r.comes;
            silent = silent_at setting roomy earlier caller waits counted (w.next + 1) rip
                next_place inside small z refl;
            begins = subst (λ (xs : List (List ℕ)).
                let c : Configuration = record {
                  frame = again w (w.next + 1) ts w.landed;
                  below = items;
                  store = record source { activations = xs };
                  events = es;
                } in
                RepresentsAt t fs program p q z c) same_locals begins;
            keeps = keeps_shadow z r.comes ends;
          }
