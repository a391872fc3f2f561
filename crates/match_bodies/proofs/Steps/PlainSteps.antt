-- The steps of linear code that need no dispatcher and no call.
use Rattle.std.proofs.Common.{◌≡◌, ℕ, zero, suc, ◌+◌, ◌*◌, ◌^◌, ◌<◌, ◌≤◌, Bool, true, false, cond, Option, Some, None, List, [], ◌∷◌, length, take, refl, sym, ap, subst, ◌∙◌, arith, length-take}
use Rattle.std.specs.Prelude.{nat_eq, slice_get, slice_index, slice_set}
use Rattle.std.proofs.lemmas.List.{append-nil}
use Rattle.std.proofs.lemmas.Option.{slice_get_within}
use Rattle.match_bodies.specs.Words.{Event, Memory, State, Slot, Local, Temporary, Instruction, BodyState, IsSlot, LinearBody, body_of, Configuration, Next, local_of, read, forth, with_some, act, machine, InstructionDone, ReachesBody, template, template_size, counts_of, locals_of, Moves, HaveRoom, links_of, turns_left, with_values, Setting, RepresentsAt, JumpsTo, IsHeld, at_label, with_last, pick, tested, IsReached}
use Rattle.linear_code.specs.declared.instruction.Instruction.TheVariants as instructions
use Rattle.linear_code.specs.Meaning as meanings
use Rattle.lowering_invariants.specs.Registers.{SlotHas, SlotsHave}
use Rattle.match_bodies.proofs.Places.LabelPlaces.{label_near}
use Rattle.match_bodies.proofs.Places.ActivationPlaces.{locals_count}
use Rattle.match_bodies.proofs.Places.ActivationStores.{activated, same_activations}
use Rattle.match_bodies.proofs.Steps.BodyViews.{IsCounted, placed, count, slots_here, locals_here}
use Rattle.match_bodies.proofs.Places.LocalPlaces.{leaves_same}
use Rattle.match_bodies.proofs.Places.ReachedSlots.{slots_reached}
use Rattle.match_bodies.proofs.Templates.TemplateSlots.{Leaves}
use Rattle.match_bodies.proofs.Templates.TemplateRuns.{code, frame, slots, v, same_state, done, has_slots, next_address, Surroundings, to_label, RunsSpare, template_spared}
use Rattle.match_bodies.proofs.Templates.TemplateShadows.{RunsKeep}
use Rattle.match_bodies.proofs.Keeping.TemplateKeeping.{separator_keeps, jump_keeps, jump_if_zero_keeps}

-- an element of a front of a list
taken : (i : ℕ) (xs : List ℕ) (j v : ℕ) → slice_get (take i xs) j ≡ Some v → slice_get xs j ≡ Some v
taken zero xs j v e = cc
taken (suc i) [] j v e = cc
taken (suc i) (x ∷ xs) zero v e = e
taken (suc i) (x ∷ xs) (suc j) v e = taken i xs j v e

got_within : (vs : List ℕ) (i : ℕ) → i < length vs → slice_get vs i ≡ Some (slice_index vs i)
got_within [] i lt = absurd (omega arith)
got_within (x ∷ vs) zero lt = refl
got_within (x ∷ vs) (suc i) lt = got_within vs i (omega arith)

module _ (setting : Setting) (roomy : HaveRoom setting.program) where
  open setting use {functions as t, funclets as fs, program, plan as p, sites as q, image}

  -- linear code at another instruction of the body that runs, with these numbers in its slots
  abbrev pub at_other : Configuration → (label : ℕ) (values ts : List ℕ) (landed : Option ℕ)
      → Memory → List Event → Configuration
  at_other c label values ts landed source events = record {
    frame = record c.frame { next = label; temporaries = ts; landed = landed };
    below = c.below;
    store = record c.store {
      memory = source;
      activations = slice_set c.store.activations c.frame.activation
          values;
    };
    events = events;
  }

  module _ (s : State) (c : Configuration) (b : RepresentsAt setting s c)
      (counted : IsCounted setting c) (around : Surroundings setting roomy s c b counted) where
    abbrev body : LinearBody
    body = code setting roomy s c b counted

    abbrev pub values_here : List ℕ
    values_here = (placed setting s c b counted).values

    is_there : c.frame.activation < length b.body.acts
    is_there = let n = slice_get_within (locals_of b.body.acts) c.frame.activation values_here
        (placed setting s c b counted).number in let k = locals_count b.body.acts in
        omega arith

    -- a turn of linear code that is a run of a template to an instruction of the body
    moves_within : (most : ℕ) (i : Instruction) (n label rip : ℕ) (d : BodyState)
        (values ts : List ℕ) (landed : Option ℕ)
        → ReachesBody (frame setting roomy s c b counted) n s rip
        (v setting roomy s c b counted).rest (v setting roomy s c b counted).locals d
        → rip ≡ p.address c.frame.body label
        → label < length body.code → rip < 2 ^ 64
        → Leaves p c.frame.body body d values_here values ts → landed ≡ None
        → RunsKeep setting s c b counted n s → RunsSpare setting roomy s c b counted n
        → ((next : Next) → act program i next c ≡ next
        (at_other c label values ts landed d.memory c.events)) → 1 ≤ n
        → n + 3 * length ts ≤ most + 3 * length c.frame.temporaries
        → Moves t fs program most turns_left (RepresentsAt setting) s c i
    moves_within most i n label rip d values ts landed r at lt small leaves free keep spare acts
        some few =
        let m = to_label setting roomy s c b counted around n label rip d values ts
        landed c.events r at lt small leaves free keep spare in
        let store : locals_of (with_values b.body.acts c.frame.activation values)
        ≡ slice_set c.store.activations c.frame.activation values =
        activated b.body.acts c.frame.activation values is_there
        ∙ ap (λ xs. slice_set xs c.frame.activation values) (sym b.body.store) in
        record {
          turns = n;
          some = some;
          configuration = at_other c label values ts landed d.memory c.events;
          few = omega arith;
          state = m.0;
          events = [];
          comes = m.1;
          acts = acts;
          shown = sym (append-nil c.events);
          is_there = subst (λ (xs : List (List ℕ)). let o : Configuration = record {
            frame = record c.frame { next = label; temporaries = ts; landed = landed };
            below = c.below;
            store = record c.store { memory = d.memory; activations = xs };
            events = c.events;
          } in RepresentsAt setting m.0 o) store m.2;
        }

    pub moves_to : (i : Instruction) (n label rip : ℕ) (d : BodyState) (values ts : List ℕ)
        (landed : Option ℕ)
        → ReachesBody (frame setting roomy s c b counted) n s rip
        (v setting roomy s c b counted).rest (v setting roomy s c b counted).locals d
        → rip ≡ p.address c.frame.body label
        → label < length body.code → rip < 2 ^ 64
        → Leaves p c.frame.body body d values_here values ts → landed ≡ None
        → RunsKeep setting s c b counted n s → RunsSpare setting roomy s c b counted n
        → ((next : Next) → act program i next c ≡ next
        (at_other c label values ts landed d.memory c.events)) → 1 ≤ n
        → n + 3 * length ts ≤ 16 + 3 * length c.frame.temporaries
        → Moves t fs program 16 turns_left (RepresentsAt setting) s c i
    moves_to = moves_within 16

    -- the same numbers in the locals
    pub same_store : slice_set c.store.activations c.frame.activation values_here
        ≡ c.store.activations
    same_store =
        ap (λ xs. slice_set xs c.frame.activation values_here) b.body.store
        ∙ sym (activated b.body.acts c.frame.activation values_here is_there)
        ∙ same_activations b.body.acts c.frame.activation values_here is_there
        (placed setting s c b counted).number ∙ sym b.body.store

    -- ---- jumps, and nothing

    -- the slots as they are
    pub all_as_they_are : length c.frame.temporaries ≤ body.temporaries
        → Leaves p c.frame.body body (slots setting roomy s c b counted) values_here values_here
        c.frame.temporaries
    all_as_they_are held =
        let w = slots_here setting s c b counted in
        record {
          count = count setting s c b counted;
          locals = λ i lt reached. w.locals i lt reached ∙ ap (λ xs. slice_index xs i)
              (locals_here setting s c b counted);
          others = λ k name. leaves_same (p.register c.frame.body) 0 values_here;
          few = held;
          temporaries = w.temporaries;
        }

    -- linear code's next configuration is at an instruction
    abbrev pub GoesInside : Instruction → Type 0
    GoesInside i = (d : Configuration) → ((next : Next) → act program i next c ≡ next d)
        → (o : LinearBody) → body_of program d.frame.body ≡ Some o → d.frame.next < length o.code

    -- a template's run begins in the state itself
    abbrev pub Reached : ℕ → ℕ → BodyState → Type 0
    Reached n rip d = ReachesBody (frame setting roomy s c b counted) n s rip
        (v setting roomy s c b counted).rest (v setting roomy s c b counted).locals d

    pub from_here : (n rip : ℕ) (d : BodyState)
        → ReachesBody (frame setting roomy s c b counted) n
        (machine (v setting roomy s c b counted) s.cpu.rip s.cpu.flags) rip
        (v setting roomy s c b counted).rest (v setting roomy s c b counted).locals d
        → Reached n rip d
    from_here n rip d r =
        subst (λ x. ReachesBody (frame setting roomy s c b counted) n x rip
        (v setting roomy s c b counted).rest (v setting roomy s c b counted).locals d)
        (sym (same_state setting roomy s c b counted)) r

    pub label_small : (label : ℕ) → label < length body.code → p.address c.frame.body label < 2 ^ 64
    label_small label lt =
        let n = (label_near setting c.frame.body body b.body.slots.body label).1 in
        omega arith

    pub jump_step : (label : ℕ) → c.frame.landed ≡ None
        → slice_get body.code c.frame.next ≡ Some (instructions.Jump label)
        → length c.frame.temporaries ≤ body.temporaries → GoesInside (instructions.Jump label)
        → Moves t fs program 16 turns_left (RepresentsAt setting) s c (instructions.Jump label)
    jump_step label free e held inside =
        let r = done setting roomy s c b counted (instructions.Jump label) e in
        let most = r.most in
        let lt = inside (at_label label c) (λ next. refl) body b.body.slots.body in
        moves_to (instructions.Jump label) 1 label (p.address c.frame.body label)
        (slots setting roomy s c b counted) values_here c.frame.temporaries c.frame.landed
        (from_here 1 (p.address c.frame.body label)
        (slots setting roomy s c b counted) r.follows) refl lt (label_small label lt)
        (all_as_they_are held) free (jump_keeps setting roomy s c b counted label e)
        (template_spared setting roomy s c b counted (instructions.Jump label) e (λ h. h))
        (λ next. ap (λ xs. let o : Configuration =
        record {
          frame = record c.frame { next = label };
          below = c.below;
          store = record c.store { memory = c.store.memory; activations = xs };
          events = c.events;
        } in
        next o) (sym same_store)) r.least (omega arith)

    -- ---- slots that are read

    -- the locals that the instruction here names
    pub reached_here : (i : Instruction) → slice_get body.code c.frame.next ≡ Some i
        → SlotsHave (IsReached p c.frame.body) i
    reached_here i e = slots_reached setting c.frame.body body b.body.slots.body c.frame.next i e

    abbrev pub slots_now : BodyState
    slots_now = slots setting roomy s c b counted

    pub record IsRead (slot : Slot) : Type 0 where
      pub value : ℕ
      pub reads : read c slot ≡ Some value
      pub same : slots_now.slots slot ≡ value

    pub is_read : (slot : Slot) → IsSlot (counts_of body) slot
        → IsHeld (length c.frame.temporaries) slot → SlotHas (IsReached p c.frame.body) slot
        → IsRead slot
    is_read (Local x) there h reached = record {
      value = local_of c.store c.frame.activation x;
      reads = refl;
      same = (slots_here setting s c b counted).locals x there reached;
    }
    is_read (Temporary i) there h reached =
        let e = got_within c.frame.temporaries i h in
        record {
          value = slice_index c.frame.temporaries i;
          reads = e;
          same = (slots_here setting s c b counted).temporaries i
              (slice_index c.frame.temporaries i) e;
        }

    -- fewer temporaries
    pub fewer : (ts : List ℕ) → length c.frame.temporaries ≤ body.temporaries
        → length ts ≤ length c.frame.temporaries
        → ((i v : ℕ) → slice_get ts i ≡ Some v → slice_get c.frame.temporaries i ≡ Some v)
        → Leaves p c.frame.body body slots_now values_here values_here ts
    fewer ts held le front =
        let all = all_as_they_are held in
        record {
          count = all.count;
          locals = all.locals;
          others = all.others;
          few = omega arith;
          temporaries = λ i v e. all.temporaries i v (front i v e);
        }

    pub separator_step : c.frame.landed ≡ None
        → slice_get body.code c.frame.next ≡ Some instructions.Separator
        → length c.frame.temporaries ≤ body.temporaries → GoesInside instructions.Separator
        → Moves t fs program 1 turns_left (RepresentsAt setting) s c instructions.Separator
    separator_step free e held inside =
        let r = done setting roomy s c b counted instructions.Separator e in
        let most = r.most in
        let lt = inside (forth (with_last [] c)) (λ next. refl) body b.body.slots.body in
        let at = next_address setting roomy s c b counted instructions.Separator e refl in
        let small = label_small (c.frame.next + 1) lt in
        moves_within 1 instructions.Separator 1 (c.frame.next + 1)
        (s.cpu.rip + template_size (p.layout c.frame.body) instructions.Separator) slots_now
        values_here [] c.frame.landed
        (from_here 1 (s.cpu.rip + template_size (p.layout c.frame.body) instructions.Separator)
        slots_now r.follows) (sym at) lt (omega arith) (fewer [] held (omega arith) (λ i v g. cc))
        free (separator_keeps setting roomy s c b counted e)
        (template_spared setting roomy s c b counted instructions.Separator e (λ h. h))
        (λ next. ap (λ xs. let o : Configuration =
        record {
          frame = record c.frame { next = c.frame.next + 1; temporaries = [] };
          below = c.below;
          store = record c.store { memory = c.store.memory; activations = xs };
          events = c.events;
        } in next o) (sym same_store)) r.least (omega arith)

    -- the temporaries after a test
    abbrev pub after_test : Slot → List ℕ
    after_test (Local x) = c.frame.temporaries
    after_test (Temporary i) = take i c.frame.temporaries

    test_front : (slot : Slot) → length c.frame.temporaries ≤ body.temporaries
        → Leaves p c.frame.body body slots_now values_here values_here (after_test slot)
    test_front (Local x) held = all_as_they_are held
    test_front (Temporary i) held = fewer (take i c.frame.temporaries) held
        (let n = length-take i c.frame.temporaries in omega arith) (taken i c.frame.temporaries)

    test_fewer : (slot : Slot) → length (after_test slot) ≤ length c.frame.temporaries
    test_fewer (Local x) = omega arith
    test_fewer (Temporary i) = let n = length-take i c.frame.temporaries in omega arith

    abbrev pub tested_at : Slot → ℕ → Configuration
    tested_at slot label = record {
      frame = record c.frame
          { next = label; temporaries = after_test slot };
      below = c.below;
      store = c.store;
      events = c.events;
    }

    tested_is : (slot : Slot) (label : ℕ) → at_label label (tested slot c) ≡ tested_at slot label
    tested_is (Local x) label = refl
    tested_is (Temporary i) label = refl

    forth_is : (slot : Slot) → forth (tested slot c) ≡ tested_at slot (c.frame.next + 1)
    forth_is (Local x) = refl
    forth_is (Temporary i) = refl

    -- ---- a jump where a slot holds 0

    acts_tested : (slot : Slot) (label value : ℕ) (z : Bool) → read c slot ≡ Some value
        → nat_eq value 0 ≡ z → (next : Next) → act program (instructions.JumpIfZero slot label) next
        c
        ≡ pick z (next (at_label label (tested slot c))) (next (forth (tested slot c)))
    unfolding with_some
    acts_tested slot label value z r e next =
        ap (λ o. with_some c.events o (λ v. pick (nat_eq v 0)
        (next (at_label label (tested slot c))) (next (forth (tested slot c))))) r
        ∙ ap (λ w. pick w (next (at_label label (tested slot c))) (next (forth (tested slot c)))) e

    jumps : (slot : Slot) (label value : ℕ) → read c slot ≡ Some value → nat_eq value 0 ≡ true
        → (next : Next) → act program (instructions.JumpIfZero slot label) next c
        ≡ next (tested_at slot label)
    unfolding pick
    jumps slot label value r e next = acts_tested slot label value true r e next
        ∙ ap next (tested_is slot label)

    continues : (slot : Slot) (label value : ℕ) → read c slot ≡ Some value → nat_eq value 0 ≡ false
        → (next : Next) → act program (instructions.JumpIfZero slot label) next c
        ≡ next (tested_at slot (c.frame.next + 1))
    unfolding pick
    continues slot label value r e next = acts_tested slot label value false r e next
        ∙ ap next (forth_is slot)

    -- a test takes fewer turns than it frees
    to_tested : (slot : Slot) (label n rip to : ℕ) → c.frame.landed ≡ None
        → rip ≡ p.address c.frame.body to → Reached n rip slots_now
        → length c.frame.temporaries ≤ body.temporaries
        → GoesInside (instructions.JumpIfZero slot label)
        → RunsKeep setting s c b counted n s → RunsSpare setting roomy s c b counted n
        → ((next : Next) → act program (instructions.JumpIfZero slot label) next c
        ≡ next (tested_at slot to)) → 1 ≤ n → n ≤ 16
        → Moves t fs program 16 turns_left (RepresentsAt setting) s c
        (instructions.JumpIfZero slot label)
    to_tested slot label n rip to free at r held inside keep spare acts some most =
        let lt = inside (tested_at slot to) acts body b.body.slots.body in
        let small = label_small to lt in
        let len = test_fewer slot in
        moves_to (instructions.JumpIfZero slot label) n to rip slots_now values_here
        (after_test slot) c.frame.landed r at lt (omega arith) (test_front slot held) free keep
        spare
        (λ next. acts next ∙ ap (λ xs. let o : Configuration =
        record {
          frame = record c.frame { next = to; temporaries = after_test slot };
          below = c.below;
          store = record c.store { memory = c.store.memory; activations = xs };
          events = c.events;
        } in next o) (sym same_store)) some (omega arith)

    pub jump_if_zero_step : (slot : Slot) (label : ℕ) → c.frame.landed ≡ None
        → slice_get body.code c.frame.next ≡ Some (instructions.JumpIfZero slot label)
        → length c.frame.temporaries ≤ body.temporaries → IsHeld (length c.frame.temporaries) slot
        → GoesInside (instructions.JumpIfZero slot label)
        → Moves t fs program 16 turns_left (RepresentsAt setting) s c
        (instructions.JumpIfZero slot label)
    jump_if_zero_step slot label free e held there inside =
        let r = is_read slot (has_slots setting roomy s c b counted
        (instructions.JumpIfZero slot label) e) there
        (reached_here (instructions.JumpIfZero slot label) e) in
        by_value r (nat_eq (slots_now.slots slot) 0) refl
        (done setting roomy s c b counted (instructions.JumpIfZero slot label) e)
      where
        turns : ℕ
        turns = length (template (links_of p q c.frame.body) (p.layout c.frame.body) s.cpu.rip
            (instructions.JumpIfZero slot label))

        keep : RunsKeep setting s c b counted turns s
        keep = jump_if_zero_keeps setting roomy s c b counted slot label e

        spare : RunsSpare setting roomy s c b counted turns
        spare = template_spared setting roomy s c b counted (instructions.JumpIfZero slot label) e
            (λ h. h)

        by_value : (r : IsRead slot) (z : Bool) → nat_eq (slots_now.slots slot) 0 ≡ z
            → InstructionDone (frame setting roomy s c b counted) (links_of p q c.frame.body)
            (v setting roomy s c b counted) s.cpu.rip s.cpu.flags slots_now
            (instructions.JumpIfZero slot label)
            (cond z (JumpsTo slots_now label) (meanings.Next slots_now))
            → Moves t fs program 16 turns_left (RepresentsAt setting) s c
            (instructions.JumpIfZero slot label)
        by_value r true z d = to_tested slot label turns (p.address c.frame.body label) label free
            refl (from_here turns (p.address c.frame.body label) slots_now d.follows) held inside
            keep spare
            (jumps slot label r.value r.reads (ap (λ x. nat_eq x 0) (sym r.same) ∙ z)) d.least
            d.most
        by_value r false z d =
            to_tested slot label turns (s.cpu.rip
            + template_size (p.layout c.frame.body) (instructions.JumpIfZero slot label))
            (c.frame.next + 1) free (sym (next_address setting roomy s c b counted
            (instructions.JumpIfZero slot label) e refl))
            (from_here turns (s.cpu.rip + template_size (p.layout c.frame.body)
            (instructions.JumpIfZero slot label)) slots_now d.follows) held inside keep spare
            (continues slot label r.value r.reads (ap (λ x. nat_eq x 0) (sym r.same) ∙ z)) d.least
            d.most
