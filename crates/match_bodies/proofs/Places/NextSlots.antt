-- What a run of a template leaves of the body that runs: its slots, and its frame above them.
use Rattle.std.proofs.Common.{◌≡◌, ℕ, ◌+◌, ◌*◌, ◌<◌, ◌≤◌, Option, Some, None, Ok, List, [], ◌∷◌, length, refl, sym, ap, subst, ◌∙◌, arith, inl, inr}
use Rattle.std.specs.Prelude.{◌⊎◌, ◌-◌, slice_get}
use Rattle.match_bodies.specs.Words.{STACK_START, STACK_END, Rsp, HasFrame, frame_of, State, register, word, Local, Temporary, BodyState, LinearBody, BodyName, FunctionBody, FuncletBody, Item, Waits, Searches, Unwinds, Configuration, Layout, FrameHolds, Activation, HoldsWords, IsInPlace, HoldsPlaces, FrameWords, HasActivation, HasPointers, IsAbove, slots_end, counts_of, frame_at, with_values, InTemporaries, InLocals, last_temporary, Setting, RepresentsAt, OtherRegisters, local_registers, KeepsRegisters, IsReached, now_of, arrived_in, IsFuncletPlan, IsLaidOut, VectoredAt, FilterOf}
use Rattle.match_bodies.proofs.Steps.BodyFrames.{frame_stays}
use Rattle.match_bodies.proofs.Places.LocalPlaces.{places_are, frame_words_are, place_of_local}
use Rattle.match_bodies.proofs.Places.SlotPlaces.{KeepsSlot, SlotsPlaced}
use Rattle.match_bodies.proofs.Steps.BodyViews.{IsCounted, placed, count, sp_low, frame_top, last_room, AsFunction, AsLeaf, AsFunclet, kind}
use Rattle.match_bodies.proofs.Keeping.ActivationKeeping.{first_changes, still_is}
use Rattle.match_bodies.proofs.Templates.TemplateChanges.{words_are, Changed, slot_word, word_beside}
use Rattle.match_bodies.proofs.Templates.TemplateSlots.{get_index, Leaves}

module _ (setting : Setting) where
  open setting use {functions as t, funclets as fs, program, plan as p, image}

  module _ (s : State) (c : Configuration) (b : RepresentsAt setting s c)
      (counted : IsCounted setting c) where
    abbrev code : LinearBody
    code = b.body.slots.code

    abbrev sp : ℕ
    sp = register s.cpu Rsp

    abbrev y : Layout
    y = p.layout c.frame.body

    abbrev registers : ℕ → Option ℕ
    registers = p.register c.frame.body

    abbrev then : ℕ → ℕ
    then = now_of (p.leaf c.frame.body) s.cpu

    abbrev here : SlotsPlaced s.memory y code.temporaries sp c.frame.activation b.body.acts
    here = placed setting s c b counted

    -- a run of a template of this body
    pub record Ran (u : State) (d : BodyState) (values ts : List ℕ) : Type 0 where
      pub changed : Changed program.globals s u y (counts_of code) sp here.base
      pub holds : FrameHolds
          (frame_at program p c.frame.body code sp here.base (arrived_in s.cpu))
          (local_registers u.cpu.registers) u.memory d
      pub kept : KeepsRegisters y s.cpu.registers u.cpu.registers
      pub leaves : Leaves p c.frame.body code d here.values values ts

    cnt : length here.values ≡ code.locals
    cnt = count setting s c b counted

    low : STACK_START + 196568 ≤ sp
    low = sp_low setting s c b counted

    top : sp + y.frame + 8 ≤ STACK_END
    top = frame_top setting s c b counted

    module _ (u : State) (d : BodyState) (values ts : List ℕ) (r : Ran u d values ts) where
      abbrev now : ℕ → ℕ
      now = now_of (p.leaf c.frame.body) u.cpu

      pub stack_there : register u.cpu Rsp ≡ sp
      stack_there = ap (λ (o : OtherRegisters). o.rsp) r.kept.rest

      -- ---- slots

      -- the parameters that stay in registers are there still
      abbrev pub Stay : Type 0
      Stay = (i : ℕ) → i < y.arrivals → arrived_in u.cpu i ≡ arrived_in s.cpu i

      -- a local that the body's code reaches
      new_local : (i v : ℕ) → (i < y.arrivals → arrived_in u.cpu i ≡ arrived_in s.cpu i)
          → slice_get values i ≡ Some v → IsReached p c.frame.body i
          → IsInPlace u.memory now (here.base + y.locals + 8 * i) v (registers i)
      new_local i v stay e reached =
          let g = get_index values i v e in let lt = g.1 in
          let n = r.leaves.count in let high = here.base_high in
          let base = here.base_low in
          let m = cnt in
          let at : here.base + (y.locals + 8 * i) ≡ here.base + y.locals + 8 * i = omega arith in
          place_of_local setting c.frame.body code b.body.slots.body u.cpu u.memory here.base i v
          (arrived_in s.cpu) (λ lt. sym (stay lt)) reached
          (λ e. subst (λ a. word u.memory a ≡ Ok v) at
          (slot_word program.globals s u y (counts_of code) sp c.frame.activation b.body.acts here
          cnt r.changed b.memory.data_alone b.memory.stack (here.base + (y.locals + 8 * i)) v
          (omega arith) (omega arith) e))
          (r.holds.slot (Local i) (omega arith) ∙ r.leaves.locals i (omega arith) reached ∙ g.0)

      -- all of a function's, in its frame and in registers
      new_places : Stay → (number end : ℕ) → c.frame.body ≡ FunctionBody number
          → here.base + y.locals + 8 * length values ≤ end
          → HoldsPlaces u.memory now registers 0 (here.base + y.locals) end values
      new_places stay number end name le = places_are u.memory now registers
          (here.base + y.locals) end values le
          (λ i v e. new_local i v (stay i) e (subst (λ n. IsReached p n i) (sym name) tt))

      -- and those in the frame of a funclet's function
      pub new_words : (number : ℕ) → c.frame.body ≡ FuncletBody number
          → FrameWords u.memory registers 0 (here.base + y.locals)
          (here.base + y.locals + 8 * length values) values
      new_words number name = frame_words_are u.memory registers (here.base + y.locals)
          (here.base + y.locals + 8 * length values) values (omega arith)
          (λ i v e none. subst (IsInPlace u.memory now (here.base + y.locals + 8 * i) v) none
          (new_local i v (λ lt. absurd (stays_none i lt)) e (reached i none)))
        where
          stays_none : (i : ℕ) → i < y.arrivals → ⊥
          stays_none i lt =
              let plan : IsFuncletPlan program p number code =
              subst (λ n. IsLaidOut program p n code) name
              (image.laid_out c.frame.body code b.body.slots.body) in
              let none : y.arrivals ≡ 0 = ap (λ n. (p.layout n).arrivals) name
              ∙ plan.layout.none_arrive in
              absurd (omega arith)

          reached : (i : ℕ) → registers i ≡ None → IsReached p c.frame.body i
          reached i = subst (λ n. p.register n i ≡ None → IsReached p n i) (sym name) (λ e. e)

      new_temporary : (i v : ℕ) → slice_get ts i ≡ Some v
          → word u.memory (sp + y.temporaries + 8 * i) ≡ Ok v
      new_temporary i v e =
          let g = get_index ts i v e in let lt = g.1 in
          let few = r.leaves.few in let high = here.sp_high in
          let start = here.sp_low in
          let at : sp + (y.temporaries + 8 * i) ≡ sp + y.temporaries + 8 * i = omega arith in
          subst (λ a. word u.memory a ≡ Ok v) at
          (slot_word program.globals s u y (counts_of code) sp c.frame.activation b.body.acts here
          cnt r.changed b.memory.data_alone b.memory.stack (sp + (y.temporaries + 8 * i)) v
          (omega arith) (omega arith)
          (r.holds.slot (Temporary i) (omega arith) ∙ r.leaves.temporaries i v e))

      pub new_temporaries : HoldsWords u.memory (sp + y.temporaries)
          (sp + last_temporary y c.frame.body (p.leaf c.frame.body)) ts
      new_temporaries =
          let room = last_room setting s c b counted in let few = r.leaves.few in
          words_are u.memory (sp + y.temporaries)
          (sp + last_temporary y c.frame.body (p.leaf c.frame.body)) ts
          (omega arith) new_temporary

      -- a word that is in no slot
      kept_word : (at v : ℕ) → STACK_START ≤ at → at + 8 ≤ STACK_END
          → ((a : ℕ) → at ≤ a → a < at + 8 → InTemporaries y (counts_of code) sp a
          ⊎ InLocals y (counts_of code) here.base a → ⊥) → word s.memory at ≡ Ok v
          → word u.memory at ≡ Ok v
      kept_word at v l h out w = word_beside program.globals s u y (counts_of code) sp
          c.frame.activation b.body.acts here cnt r.changed b.memory.data_alone b.memory.stack at v
          l
          h out w

      -- ---- by the kind of body

      own_base : (o : Option ℕ) → o ≡ y.base → o ≡ None → here.base ≡ sp
      own_base None e n = subst (λ o. KeepsSlot s.memory y o sp here.base) (sym e) here.kept
      own_base (Some slot) e n = let z : ◌≡◌ {A = Option ℕ} (Some slot) None = n in absurd cc

      pub function_base : y.base ≡ None → here.base ≡ sp
      function_base n = own_base y.base refl n

      -- a function's activation, with the new numbers
      own_activation : Stay → (number size : ℕ) (acts : List Activation) → b.body.acts ≡ acts
          → c.frame.body ≡ FunctionBody number
          → HasActivation s.memory then registers y sp size c.frame.activation acts
          (FunctionBody number)
          → y.locals + 8 * length values ≤ size
          → HasActivation u.memory now registers y sp size c.frame.activation
          (with_values acts c.frame.activation values) (FunctionBody number)
      own_activation stay number size [] e name h le = absurd h
      own_activation stay number size (a ∷ outer) e name h le =
          let base = function_base h.none in
          subst (λ x. HasActivation u.memory now registers y sp size c.frame.activation x
          (FunctionBody number))
          (sym (first_changes a outer c.frame.activation values h.activation.number))
          (record {
            none = h.none;
            activation = record {
              number = h.activation.number;
              base = h.activation.base;
              distance = h.activation.distance;
              registers = h.activation.registers;
            };
            values = subst (λ x. HoldsPlaces u.memory now registers 0 (x + y.locals) (sp + size)
                values) base (new_places stay number (sp + size) name (omega arith));
          })

      pub funclet_base : (number size : ℕ) → (h : HasActivation s.memory then registers y sp size
          c.frame.activation b.body.acts (FuncletBody number))
          → KeepsSlot s.memory y (Some h.slot) sp here.base
      funclet_base number size h = subst (λ o. KeepsSlot s.memory y o sp here.base) h.some here.kept

      -- the frame's word at an offset is in no slot
      abbrev Beside : ℕ → Type 0
      Beside offset = (a : ℕ) → sp + offset ≤ a → a < sp + offset + 8
          → InTemporaries y (counts_of code) sp a ⊎ InLocals y (counts_of code) here.base a → ⊥

      -- where it is above the slots
      abbrev Saved : Type 0
      Saved = (offset : ℕ) → y.slots ≤ offset → offset ≤ y.frame → Beside offset

      function_beside : AsFunction setting s c b counted → Saved
      function_beside f offset from to a l h i =
          let base = function_base f.layout.none in let x = f.layout.temporaries in
          let z = f.layout.locals in
          elim i [
            | inl w ↦ (let g = w.1 in absurd (omega arith))
            | inr w ↦ (let g = w.1 in
                absurd (omega arith))
          ]

      leaf_beside : AsLeaf setting s c b counted → Saved
      leaf_beside f offset from to a l h i =
          let base = function_base f.layout.none in let x = f.layout.temporaries in
          let z = f.layout.locals in let n = f.layout.frame in
          elim i [
            | inl w ↦ (let g = w.0 in absurd (omega arith))
            | inr w ↦ (let g = w.0 in
                absurd (omega arith))
          ]

      funclet_beside : (f : AsFunclet setting s c b counted) → (offset : ℕ) →
          (offset + 8 ≤ y.temporaries) ⊎ ((y.slots ≤ offset) × (offset ≤ y.frame)) → Beside offset
      funclet_beside f offset o a l h i =
          let k = (funclet_base f.number y.slots f.activation).above_frame in
          let x = f.layout.temporaries in
          let j = f.layout.within in
          elim i [
            | inl w ↦ (let g = w.0 in let z = w.1 in elim o [
              | inl e ↦ absurd (omega arith)
              | inr e ↦ (let from = e.0 in absurd (omega arith))
            ])
            | inr w ↦ (let g = w.0 in elim o [
              | inl e ↦ absurd (omega arith)
              | inr e ↦ (let to = e.1 in absurd (omega arith))
            ])
          ]

      own_beside : Saved
      own_beside = elim (kind setting s c b counted) [
        | inl f ↦ function_beside f
        | inr (inl f) ↦ leaf_beside f
        | inr (inr f) ↦ λ offset from to. funclet_beside f offset (inr (from, to))
      ]

      -- the frame's words are above its slots
      pub frame_after : HasFrame u (p.leaf c.frame.body)
          (frame_of p c.frame.body b.body.back b.body.others)
      frame_after =
          let l = low in
          let h = top in
          frame_stays setting c.frame.body code b.body.slots.body s u b.body.back b.body.others
          r.kept (λ a v from to w.
          (let same : sp + (a - sp) ≡ a = omega arith in
          kept_word a v (omega arith) (omega arith)
          (subst (λ n. (x : ℕ) → n ≤ x → x < n + 8 → InTemporaries y (counts_of code) sp x
          ⊎ InLocals y (counts_of code) here.base x → ⊥) same
          (own_beside (a - sp) (omega arith) (omega arith))) w))
          b.body.frame

      abbrev pub Held : ℕ → BodyName → Type 0
      Held size name = HasActivation u.memory now registers y sp size c.frame.activation
          (with_values b.body.acts c.frame.activation values) name

      pub activation : Stay → Held (slots_end y (p.leaf c.frame.body)) c.frame.body
      activation stay = elim (kind setting s c b counted) [
        | inl f ↦ subst (λ l. Held (slots_end y l) c.frame.body) (sym f.framed)
            (subst (Held y.slots) (sym f.name)
            (own_activation stay f.number y.slots b.body.acts refl f.name f.activation
            (let n = r.leaves.count in let z = f.layout.locals in omega arith)))
        | inr (inl f) ↦ subst (λ l. Held (slots_end y l) c.frame.body) (sym f.leaf)
            (subst (Held y.temporaries) (sym f.name)
            (own_activation stay f.number y.temporaries b.body.acts refl f.name f.activation
            (let n = r.leaves.count in let x = f.layout.temporaries in let z = f.layout.locals in
            omega arith)))
        | inr (inr f) ↦ subst (λ l. Held (slots_end y l) c.frame.body) (sym f.framed)
            (subst (Held y.slots) (sym f.name)
            (record {
              slot = f.activation.slot;
              base = f.activation.base;
              some = f.activation.some;
              room = f.activation.room;
              kept = (let k = funclet_base f.number y.slots f.activation in let z =
                  k.below_temporaries in let l = low in let h = top in let w = f.activation.room in
                  let e = f.layout.within in
                  kept_word (sp + f.activation.slot) f.activation.base (omega arith) (omega arith)
                  (funclet_beside f f.activation.slot (inl z)) f.activation.kept);
              activation = still_is b.body.acts c.frame.activation values c.frame.activation
                  f.activation.base y.locals registers f.activation.activation;
            }))
      ]

      -- ---- a filter's pointers

      pub pointers_in : (items : List Item) → IsAbove t fs program p c.frame c.frame.body items
          → HasPointers t fs program p s.memory y sp y.frame items
          → HasPointers t fs program p u.memory y sp y.frame items
      pointers_in [] a h = tt
      pointers_in (Waits w ∷ below) a h = tt
      pointers_in (Unwinds rest target ∷ below) a h = tt
      pointers_in (Searches exception resumption (VectoredAt place) ∷ below) a h = tt
      pointers_in (Searches exception resumption (FilterOf asked rest) ∷ below) a h = elim
          (kind setting s c b counted) [
            | inl f ↦ absurd (subst (λ n. IsAbove t fs program p c.frame n
                (Searches exception resumption (FilterOf asked rest) ∷ below)) f.name a)
            | inr (inl f) ↦ absurd (subst (λ n. IsAbove t fs program p c.frame n
                (Searches exception resumption (FilterOf asked rest) ∷ below)) f.name a)
            | inr (inr f) ↦ (let l = low in let e = top in let z = h.room in let g =
                f.layout.pointers in let w = f.layout.kept in
                record {
                  room = h.room;
                  kept = kept_word (sp + y.pointers) (sp + y.frame + 88)
                      (omega arith) (omega arith)
                      (funclet_beside f y.pointers (inl (omega arith))) h.kept;
                })
          ]
