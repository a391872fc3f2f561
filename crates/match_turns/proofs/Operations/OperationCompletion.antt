-- Within an operation that gives a number, the rest of its template completes the step.
use Rattle.std.proofs.Common.{◌≡◌, ℕ, zero, ◌+◌, ◌*◌, ◌^◌, ◌<◌, ◌≤◌, Option, Some, None, List, [], ◌∷◌, length, refl, sym, ap, subst, ◌∙◌, arith, length-append}
use Rattle.std.specs.Prelude.{slice_set}
use Rattle.std.proofs.lemmas.List.{append-nil}
use Rattle.std.proofs.lemmas.Option.{slice_get_within}
use Rattle.match_turns.specs.Words.{Memory, Rax, Rcx, Instr, State, register, Gives, Operation, Slot, Temporary, Layout, Instruction, BodyState, with_slot, HasSlots, LinearBody, Configuration, Next, act, written, exec, sizes, operands_code, finish_code, machine, ReachesBody, FramePlace, locals_of, AllKeep, Comes, HasRule, Moves, turns_left, IsWellMade, IsKnown, seen_by_templates, counts_of, with_values, ComesTo, Setting, RepresentsAt, WorksOn, OtherRegisters}
use Rattle.linear_code.specs.declared.instruction.Instruction.TheVariants as instructions
use Rattle.linear_machine.specs.Frames as linear
use Rattle.match_turns.proofs.Lemmas.{compute_length, reaches_silently, locals_count, activated, IsCounted, is_machine, Keeps, reaches_keeps, stays_well_formed, Leaves, further, Ran, represents_next, is_here, is_after, ends_at, RunsKeep, finish_keeps, Surroundings, has_slots, next_address, silent_at, locals_after, temporaries_after, FitsAfter, one_more, at_other, label_small, reached_here, stored, writes, fits_when_read, leaves_stored, held_here, goes_inside}
use Rattle.x64_templates.specs.Runs.{Finished, Reaches}
use Rattle.match_bodies.proofs.Steps.BodyViews.{placed}
use Rattle.match_turns.proofs.Operations.OperationMeaning.{acts_as}
use Rattle.match_turns.proofs.Operations.OperationCode.{some_finish, whole_size}
use Rattle.match_turns.proofs.Operations.OperationInProgress as inside

some_length : (code : List Instr) → 1 ≤ sizes code → 1 ≤ length code
some_length [] le = absurd (omega arith)
some_length (i ∷ is) le = omega arith

module _ (setting : Setting) (made : IsWellMade setting.program setting.plan)
    (s : State) (c : Configuration) (w : WorksOn setting s c) (known : IsKnown setting.program c)
  where
    open setting use {functions as t, funclets as fs, program, plan as p, sites as q, image}

    abbrev to : Slot
    to = w.again.to

    abbrev o : Operation
    o = w.again.operation

    abbrev first : Slot
    first = Temporary w.again.first

    abbrev second : Slot
    second = Temporary w.again.second

    abbrev i : Instruction
    i = instructions.Compute to o first second

    abbrev y : Layout
    y = p.layout c.frame.body

    abbrev old : State
    old = inside.before setting made s c w known

    abbrev begins : RepresentsAt setting old c
    begins = inside.represents_before setting made s c w known

    abbrev counted : IsCounted setting c
    counted = inside.counted setting made s c w known

    abbrev around : Surroundings setting made.room old c begins counted
    around = inside.around setting made s c w known

    abbrev body : LinearBody
    body = inside.body setting made s c w known

    abbrev here : FramePlace
    here = inside.frame_here setting made s c w known

    abbrev now : BodyState
    now = inside.slots_now setting made s c w known

    -- ---- a run of the template's rest to an instruction of the body

    is_there : c.frame.activation < length begins.body.acts
    is_there =
        let l = placed setting old c begins counted in
        let n = slice_get_within (locals_of begins.body.acts) c.frame.activation l.values l.number
        in
        let k = locals_count begins.body.acts in
        omega arith

    module _ (n label rip : ℕ) (d : BodyState) (values ts : List ℕ) (landed : Option ℕ)
        (r : ReachesBody here n s rip (seen_by_templates s).rest
        (seen_by_templates s).locals d)
        (at : rip ≡ p.address c.frame.body label) (lt : label < length body.code)
        (small : rip < 2 ^ 64)
        (leaves : Leaves p c.frame.body body d (placed setting old c begins counted).values values
        ts) (nothing : landed ≡ None)
        (keep : RunsKeep setting old c begins counted n s)
        (whole : n ≡ length (finish_code y o to)) where
      abbrev u : State
      u = machine r.after rip r.flags

      keeps : Keeps s u
      keeps = reaches_keeps n s u r.comes

      ran : Ran setting old c begins counted u d values ts
      ran = record {
        changed = record {
          changes = r.changes;
          keeps = record {
            protection = keeps.protection;
            fixed = keeps.fixed;
            count = keeps.count;
            small = keeps.small;
            handlers = keeps.handlers;
          };
        };
        holds = r.holds;
        kept = record { rest = r.rest; locals = r.locals };
        leaves = leaves;
      }

      -- each turn keeps the shadow
      keeps_shadow : AllKeep t fs n s
      keeps_shadow =
          keep u r.comes (ends_at setting old c begins counted u label at lt
          (ap (λ (o : OtherRegisters). o.rsp) r.rest)
          (is_after setting old c begins counted u d values ts ran around.caller around.owner))

      silently : Comes t fs n s [] u
      silently = reaches_silently t fs program p q image n s u r.comes keeps_shadow w.memory.code
          (silent_at setting made.room old c begins counted label rip at lt small u refl)

      continues : RepresentsAt setting u (further setting c begins.body.acts label values ts landed
          d.memory c.events)
      continues =
          represents_next setting old c begins counted u d values ts ran label landed c.events at lt
          (stays_well_formed s u keeps small w.well_formed)
          (λ value e. let z : ◌≡◌ {A = Option ℕ} None (Some value) = sym nothing ∙ e in absurd cc)
          around.caller around.owner
          (inside.finish_spared setting made s c w known u
          (subst (λ k. Reaches k s u) whole r.comes))

      moves_on : ((next : Next) → act program i next c
          ≡ next (at_other setting made.room c label values ts landed d.memory c.events))
          → 1 ≤ n → n + 3 * length ts ≤ 16 + 3 * length c.frame.temporaries
          → Moves t fs program 16 turns_left (RepresentsAt setting) s c i
      moves_on acts some few =
          let store : locals_of (with_values begins.body.acts c.frame.activation values)
          ≡ slice_set c.store.activations c.frame.activation values =
          activated begins.body.acts c.frame.activation values is_there
          ∙ ap (λ xs. slice_set xs c.frame.activation values) (sym begins.body.store) in
          record {
            turns = n;
            some = some;
            configuration = at_other setting made.room c label values ts landed d.memory c.events;
            few = omega arith;
            state = u;
            events = [];
            comes = silently;
            acts = acts;
            shown = sym (append-nil c.events);
            is_there = subst (λ (xs : List (List ℕ)). let o : Configuration = record {
              frame = record c.frame { next = label; temporaries = ts; landed = landed };
              below = c.below;
              store = record c.store { memory = d.memory; activations = xs };
              events = c.events;
            } in RepresentsAt setting u o) store continues;
          }

    -- ---- the step

    abbrev finish : List Instr
    finish = finish_code y o to

    module _ (value : ℕ) (m : Memory) (gives : ComesTo program c o first second (Gives value m))
        (rule : HasRule (act program i (exec program zero) c)) where
      abbrev after : BodyState
      after = record { slots = with_slot now.slots to value; memory = m }

      run : ReachesBody here (length finish) s (s.cpu.rip + sizes finish) (seen_by_templates s).rest
          (seen_by_templates s).locals
          after
      run =
          subst (λ x. ReachesBody here (length finish) x (s.cpu.rip + sizes finish)
          (seen_by_templates s).rest (seen_by_templates s).locals after)
          (sym (is_machine s w.well_formed.count))
          (subst (λ x. Finished here o to (seen_by_templates s) s.cpu.rip s.cpu.flags
          now x) (inside.same_outcome setting made s c w known (Gives value m) gives tt)
          (inside.made_here setting made s c w known))

      meant : (next : Next) → act program i next c
          ≡ written (record c { store = record c.store { memory = m } }) to value next
      meant = acts_as program c to o first second (Gives value m) gives

      fits : FitsAfter c.frame.temporaries to
      fits = fits_when_read setting made.room old c begins counted around to value m
          (subst HasRule (meant (exec program zero)) rule)

      acts : (next : Next) → act program i next c
          ≡ next (stored setting made.room old c begins counted around to value m)
      acts next = meant next ∙ writes setting made.room old c begins counted around to value m fits
          next

      within : c.frame.next + 1 < length body.code
      within =
          goes_inside setting made old c begins known i w.again.works
          (stored setting made.room old c begins counted around to value m) acts body
          begins.body.slots.body

      next_at : s.cpu.rip + sizes finish ≡ p.address c.frame.body (c.frame.next + 1)
      next_at =
          let ops = sizes (operands_code y o first second) in
          omega (
            arith,
            w.again.here,
            next_address setting made.room old c begins counted i
                (inside.at_here setting made s c w known) refl,
            whole_size y to o first second,
          )

      rest_keeps : RunsKeep setting old c begins counted (length finish) s
      rest_keeps =
          finish_keeps setting made.room old c begins counted around to o first second
          (inside.at_here setting made s c w known) s (seen_by_templates s)
          (is_machine s w.well_formed.count)
          (record {
            rip = w.again.here;
            registers = refl;
            is_there = is_here setting old c begins counted;
          }) refl refl refl
          (record {
            protection = refl;
            fixed = λ a f. refl;
            count = refl;
            small = λ h. h;
            handlers = refl;
          })
          (register s.cpu Rax) (register s.cpu Rcx) value m
          (inside.first_small setting made s c w known)
          (inside.second_small setting made s c w known)
          (inside.operands_wait setting made s c w known)
          (inside.same_outcome setting made s c w known (Gives value m) gives tt)

      pub completed : Moves t fs program 16 turns_left (RepresentsAt setting) s c i
      completed =
          let ops = operands_code y o first second in
          let len = compute_length y to o first second in
          let more = one_more c.frame.temporaries to value fits in
          let high = label_small setting made.room old c begins counted around
          (c.frame.next + 1) within in
          let at = next_at in
          let there : HasSlots (counts_of body) i = has_slots setting made.room old c
          begins counted i (inside.at_here setting made s c w known) in
          let reached = reached_here setting made.room old c begins counted around i
          (inside.at_here setting made s c w known) in
          moves_on (length finish) (c.frame.next + 1) (s.cpu.rip + sizes finish) after
          (locals_after (linear.locals_of c.store c.frame.activation) to value)
          (temporaries_after c.frame.temporaries to value) c.frame.landed
          run at within (omega arith)
          (leaves_stored setting made.room old c begins counted around to value m
          (held_here setting made old c begins known) fits there.0 reached.0)
          (inside.free setting made s c w known) rest_keeps refl acts
          (some_length finish (some_finish y o to))
          (omega (arith, length-append ops finish))
