-- A body calls: the instructions up to the callee's first byte keep the shadow; so does the jump of
-- a thunk to a service.
use Rattle.std.proofs.Common.{◌≡◌, ℕ, ◌+◌, ◌-◌, ◌≤◌, Bool, true, false, Some, None, List, [], ◌∷◌, ◌++◌, length, refl, sym, ap, subst, ◌∙◌, arith, append_assoc}
use Rattle.std.specs.Prelude.{slice_get, slice_index}
use Rattle.std.proofs.lemmas.List.{append-nil}
use Rattle.match_bodies.specs.Words.{frame_info, Memory, Rsp, Instr, Context, State, register, with_rip, Instruction, LinearBody, BodyName, body_of, size, sizes, thunk, IsNear, call, template, IsReturn, Steps, HasCode, HasThunk, StackItem, Framed, Leaf, ItemIsAt, OwnedBy, context_after, context_below, is_call, KeepsShadow, AllKeep, links_of, frame_at_label, FindsReturn, FindsOwed, Owed, IsOwed, nothing_owed, owed_of, owed_by, Setting, IsResumed, Indirect}
use Rattle.x64_instr.specs.declared.operand.Base.TheVariants as bases
use Rattle.x64_instr.specs.declared.operand.RegisterOrMemory.TheVariants as places
use Rattle.match_bodies.proofs.Lemmas.{thunk_encodable, code_split, straight, keep_first, frame_low}
use Rattle.match_bodies.proofs.Steps.InstructionEffects.{others_of, Calls, jumps}
use Rattle.match_bodies.proofs.Walks.SilentTurns.{program_kept}
use Rattle.match_bodies.proofs.Steps.BodyFrames.{codes_above, owed_framed, owed_frame, slots_within}
use Rattle.match_bodies.proofs.Walks.OwedCallers.{at_return}
use Rattle.match_bodies.proofs.Walks.RoutineWalks.{read_here, effect_here, StepsTo, steps_split, keeps_split, Beneath, beneath_stays, callers_above, gives_above, AllPlain, plain_steady, Finds, Ran, ran}
use Rattle.match_bodies.proofs.Walks.ShadowTurns.{called, owed_called, call_keeps_shadow, beneath_callee}
use Rattle.match_bodies.proofs.Walks.ReturnAddresses.{resumed_found, within_found}
use Rattle.match_bodies.proofs.Places.LabelPlaces.{template_there}
use Rattle.match_bodies.specs.Setting.{HasProgram}

module _ (setting : Setting) where
  open setting use {functions as t, funclets as fs, program, plan as p, sites as q, image}

  module _ (name : BodyName) (b : LinearBody) (is : body_of program name ≡ Some b) (label : ℕ)
      (i : Instruction) (at : slice_get b.code label ≡ Some i) (goes : IsReturn i → ⊥)
      (before after : List Instr) (next to : ℕ)
      (parts : template (links_of p q name) (p.layout name) (p.address name label) i
      ≡ before ++ (call next to ∷ after))
      (next_is : p.address name label + sizes before + 5 ≡ next) (near : IsNear next to) (there : ℕ)
      (resumed : IsResumed setting name b there next) (enters : (m : Memory) → FindsReturn t m to)
      (s w : State) (top back : ℕ) (others : List ℕ) (list : List StackItem)
      (here : s.cpu.rip ≡ p.address name label)
      (beneath : Beneath t s (owed_of p name) top (top + 8) back others list)
      (below : register s.cpu Rsp + (p.layout name).frame ≡ top) (low : 8 ≤ register s.cpu Rsp)
      (has : HasProgram setting s.memory)
      (plain : AllPlain (p.layout name).slots (p.layout name).frame 8 before)
      (run : StepsTo (length before + 1) s w)
    where
      abbrev slots : ℕ
      slots = (p.layout name).slots

      abbrev frame : ℕ
      frame = (p.layout name).frame

      abbrev sp : ℕ
      sp = register s.cpu Rsp

      abbrev owed : Owed
      owed = owed_of p name

      -- the nonvolatile registers at the call
      abbrev others_here : List ℕ
      others_here = others_of s.cpu.registers

      -- up to the call
      halves : (u : State) × StepsTo (length before) s u × StepsTo 1 u w
      halves = steps_split (length before) 1 s w run

      abbrev u : State
      u = halves.0

      finds : Finds t fs program p q owed top (top + 8) back others list s.cpu.rip before
      finds done left split m h = by left split
        where
          by : (left : List Instr) → before ≡ done ++ left
              → FindsOwed t m (s.cpu.rip + sizes done) owed
          by [] e =
              subst (λ a. FindsOwed t m (a + sizes done) owed) (sym here)
              (within_found setting name b is m h label i at goes done after (call next to)
              (parts ∙ ap (λ (xs : List Instr). xs ++ (call next to ∷ after))
              (e ∙ append-nil done)))
          by (item ∷ left') e =
              subst (λ a. FindsOwed t m (a + sizes done) owed) (sym here)
              (within_found setting name b is m h label i at goes done
              (left' ++ (call next to ∷ after)) item
              (parts ∙ ap (λ (xs : List Instr). xs ++ (call next to ∷ after)) e
              ∙ append_assoc done (item ∷ left') (call next to ∷ after)))

      codes : (m : Memory) → HasProgram setting m → HasCode m (p.address name label) before ×
          HasCode m (p.address name label + sizes before) (call next to ∷ after)
      codes m h = code_split m (p.address name label) before (call next to ∷ after)
          (subst (HasCode m (p.address name label)) parts
          (template_there setting name b is m h label i at))

      first : Ran t fs program p q owed top (top + 8) back others list slots frame 8 s u before
      first = ran t fs program p q owed top (top + 8) back others list before s u slots frame 8
          halves.1
          (plain_steady owed slots frame 8 before plain)
          (subst (λ a. HasCode s.memory a before) (sym here) (codes s.memory has).0) has
          beneath below refl (slots_within setting name b is) (codes_above setting name b is sp)
          finds

      -- its nonvolatile registers are those of the body
      others_same : others_of u.cpu.registers ≡ others_here
      others_same = first.keeps_others plain

      -- the call
      abbrev calling : StepsTo 1 u w
      calling = halves.2

      abbrev v : State
      v = calling.0

      abbrev st : Steps u v
      st = calling.1

      code_there : HasCode u.memory u.cpu.rip (call next to ∷ after)
      code_there = let z : p.address name label + sizes before
          ≡ u.cpu.rip = omega (arith, first.rip) in
          subst (λ a. HasCode u.memory a (call next to ∷ after)) z (codes u.memory first.has).1

      sp_below : register u.cpu Rsp ≡ sp - 8 + 8
      sp_below = let z = first.stack in omega arith

      there_is : u.cpu.rip + 5 ≡ next
      there_is = let z = first.rip in omega arith

      is_called : Calls (with_rip u next) v (sp - 8) to
      is_called = called t fs owed top (top + 8) back others list u v st first.beneath (sp - 8) to
          sp_below next there_is near after code_there

      has_called : HasProgram setting v.memory
      has_called = program_kept t fs program p q u.memory v.memory
          (record { protection = st.protection; fixed = st.fixed }) first.has

      call_found : FindsOwed t u.memory u.cpu.rip owed
      call_found =
          let z : p.address name label + sizes before ≡ u.cpu.rip = omega (arith, first.rip) in
          subst (λ a. FindsOwed t u.memory a owed) z
          (within_found setting name b is u.memory first.has label i at goes before after
          (call next to) parts)

      keeps_called : KeepsShadow t fs u v
      keeps_called =
          call_keeps_shadow t fs owed top (top + 8) back others list u v st first.beneath (sp - 8)
          to sp_below next there_is near after code_there
          call_found (enters v.memory) (resumed_found setting name b is v.memory has_called there
          next resumed)

      pub calls_keep : AllKeep t fs (length before + 1) s
      calls_keep = keeps_split t fs (length before) 1 s u halves.1 first.keeps
          (keep_first t fs 0 u v st.steps keeps_called tt)

      -- at the callee's first byte the caller is an item of the list
      abbrev from_here : Context
      from_here = context_below next (sp - 8 + 8) (others_of u.cpu.registers)

      owes : IsOwed v.memory from_here owed first.beneath.size back others
      owes = owed_called t fs owed top (top + 8) back others list u v st first.beneath (sp - 8) to
          sp_below next there_is near after code_there

      record Waits (limit : ℕ) : Type 0 where
        item : StackItem
        is_there : ItemIsAt t v.memory from_here item
        same : context_after from_here item ≡ context_below back (top + 8) others
        owned : (a : ℕ) → OwnedBy from_here item a → limit ≤ a

      waits : (limit : ℕ) → limit ≤ sp + slots → Waits limit
      waits limit most = by (p.leaf name) refl
        where
          up : sp - 8 + 8 + first.beneath.size ≡ top
          up = let z = first.beneath.at in let y = sp_below in omega arith

          whole : first.beneath.size ≡ frame
          whole = owed_frame setting name b is v.memory from_here first.beneath.size back others
              owes

          by : (leaf : Bool) → p.leaf name ≡ leaf → Waits limit
          by false e =
              let high = beneath.above.high in
              let h = whole in
              let u' = up in
              let there_is_room = owed_framed setting name b is v.memory from_here
              first.beneath.size back others e owes in
              let f = image.frames v.memory name b there from_here back others is e has_called
              resumed there_is_room in
              let z : sp - 8 + 8 + frame + 8 ≡ top + 8 = omega arith in
              record {
                item = Framed (frame_at_label p name there back others);
                is_there = f;
                same = ap (λ n. context_below back n others) z;
                owned = λ a o. (let l = frame_low v.memory from_here
                    (frame_at_label p name there back others) a f.is_told o in omega arith);
              }
          by true e =
              let high = beneath.above.high in
              let i = frame_info p name in
              let n = at_return v.memory from_here first.beneath.size back others
              (subst (λ (leaf : Bool). IsOwed v.memory from_here (owed_by i leaf)
              first.beneath.size back others) e owes) in
              let flat = n.none in
              let h = whole in
              let within = slots_within setting name b is in
              let u' = up in
              let y : sp - 8 + 8 + 8 ≡ top + 8 = omega arith in
              record {
                item = Leaf back;
                is_there = image.leaves v.memory name b there from_here back is e resumed
                    refl (omega arith) n.returns;
                same = λ k. context_below back (y k) (n.others_are k);
                owned = λ a o. (let l = o.low in omega arith);
              }

      record CalleeFrom (limit : ℕ) (x : State) : Type 0 where
        item : StackItem
        beneath_it : Beneath t x nothing_owed (sp - 8) limit next others_here (item ∷ list)
        rip : x.cpu.rip ≡ to
        stack : register x.cpu Rsp ≡ sp - 8
        program_there : HasProgram setting x.memory

      pub record CalleeBegins (limit : ℕ) : Type 0 where
        pub item : StackItem
        pub beneath_it : Beneath t w nothing_owed (sp - 8) limit next others_here (item ∷ list)
        pub rip : w.cpu.rip ≡ to
        pub stack : register w.cpu Rsp ≡ sp - 8
        pub program_there : HasProgram setting w.memory

      -- which may store up to where the slots of its caller end
      pub callee_begins : (limit : ℕ) → sp ≤ limit → limit ≤ sp + slots → CalleeBegins limit
      callee_begins limit le most =
          let within = slots_within setting name b is in
          let i = waits limit most in
          let first_state : CalleeFrom limit v = record {
            item = i.item;
            beneath_it = subst (λ (os : List ℕ). Beneath t v nothing_owed (sp - 8) limit next os
                (i.item ∷ list)) others_same
                (beneath_callee t fs owed top (top + 8) back others list u v st first.beneath
                (sp - 8) to sp_below next there_is near after code_there i.item limit
                i.is_there i.same i.owned (omega arith) (omega arith));
            rip = is_called.rip;
            stack = is_called.stack;
            program_there = has_called;
          } in
          let k = subst (CalleeFrom limit) calling.2 first_state in
          record {
            item = k.item;
            beneath_it = k.beneath_it;
            rip = k.rip;
            stack = k.stack;
            program_there = k.program_there;
          }

  -- a thunk leads to its service
  module _ (s w : State) (top from back : ℕ) (others : List ℕ) (list : List StackItem)
      (beneath : Beneath t s nothing_owed top from back others list)
      (at service : ℕ) (here : s.cpu.rip ≡ at) (there : HasThunk s.memory at service)
      (run : StepsTo 1 s w) (to : w.cpu.rip ≡ service)
      (begins : (m : Memory) → FindsReturn t m at)
      (served : (m : Memory) → FindsReturn t m service) where
    pub thunk_keeps : AllKeep t fs 1 s
    thunk_keeps =
        let v = run.0 in
        let st = run.1 in
        let n = there.near in
        let i = thunk there.away in
        let enc = thunk_encodable there.away n in
        let code = subst (λ a. HasCode s.memory a (i ∷ [])) (sym here) there.code in
        let j = jumps (with_rip s (s.cpu.rip + size i)) v
        (Indirect (places.Memory (record {
          base = bases.Rip;
          index = None;
          displacement = there.away;
        }))) (effect_here s v i [] enc code st.steps) in
        let stack : register v.cpu Rsp ≡ register s.cpu Rsp =
        ap (λ (r : List ℕ). slice_index r 4) j.registers in
        let b = beneath_stays t s v nothing_owed top from back others list st stack
        (ap others_of j.registers) (λ x o. ap (λ (m : Memory). m.byte x) j.memory) beneath in
        let rip : service ≡ v.cpu.rip = sym to ∙ ap (λ (x : State). x.cpu.rip) (sym run.2) in
        let size_is = b.at in
        keep_first t fs 0 s v st.steps
        (straight t fs s v (callers_above t top back others list) st.steps
        (ap is_call (read_here s v i [] enc code))
        (gives_above t s nothing_owed top from back others list beneath
        (subst (λ a. FindsReturn t s.memory a) (sym here) (begins s.memory)))
        (gives_above t v nothing_owed top from back others list b
        (subst (λ a. FindsReturn t v.memory a) rip (served v.memory)))
        (let h : register v.cpu Rsp + 8 ≤ top + 8 = omega arith in h))
        tt
