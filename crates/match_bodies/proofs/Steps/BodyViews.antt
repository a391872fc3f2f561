-- The running body has a view: its slots as templates see them hold linear code's numbers.
use Rattle.std.proofs.Common.{◌≡◌, ℕ, ◌+◌, ◌*◌, ◌^◌, ◌<◌, ◌≤◌, Bool, true, false, cond, Some, None, List, [], length, refl, sym, ap, subst, ◌∙◌, arith, inl, inr}
use Rattle.std.specs.Prelude.{◌⊎◌, ◌==◌, slice_get, slice_index}
use Rattle.match_bodies.specs.Words.{weight_of, STACK_START, STACK_END, Rsp, State, register, LinearBody, BodyName, FunctionBody, FuncletBody, body_of, Configuration, machine, context_below, locals_of, activations_below, temporaries_end, HasActivation, IsLinkedStack, IsFunctionLayout, IsLeafLayout, IsFuncletLayout, IsLayoutIf, IsLaidOut, IsFuncletPlan, slots_end, last_temporary, FrameHolds, seen_by_templates, counts_of, frame_at, state_of, Setting, RepresentsAt, Roomy, HasSlotsOf, AllSmall, local_in, local_of, local_registers, IsReached, now_of, arrived_in}
use Rattle.x64_instr.specs.Registers.{number}
use Rattle.x64_machine.specs.declared.cpu.Cpu.{Cpu}
use Rattle.x64_instr.specs.declared.register.Reg.{Reg}
use Rattle.x64_instr.specs.declared.register.Reg.TheVariants.{Rax, Rcx, Rdx, Rbx, Rbp, Rsi, Rdi, R8, R9, R10, R11, R12, R13, R14, R15}
use Rattle.linear_machine.specs.Frames as linear
use Rattle.x64_templates.proofs.PrologueParts.{registers_are}
use Rattle.match_bodies.proofs.Lemmas.{in_stack}
use Rattle.match_bodies.proofs.Places.LocalPlaces.{number_of_place}
use Rattle.match_bodies.proofs.Places.SlotPlaces.{SlotsPlaced, LocalsPlaced, function_placed, leaf_placed, funclet_placed, room_of, holds_of, local_is, temporary_is}

-- each register of a state is a number of 64 bits
pub locals_small : (rs : List ℕ) → length rs ≡ 16 → AllSmall rs
    → (r : Reg) → local_in (local_registers rs) r < 2 ^ 64
locals_small rs n small Rbx = small 3 (omega arith)
locals_small rs n small Rsi = small 6 (omega arith)
locals_small rs n small Rdi = small 7 (omega arith)
locals_small rs n small R12 = small 12 (omega arith)
locals_small rs n small R13 = small 13 (omega arith)
locals_small rs n small R14 = small 14 (omega arith)
locals_small rs n small R15 = small 15 (omega arith)
locals_small rs n small Rax = omega arith
locals_small rs n small Rcx = omega arith
locals_small rs n small Rdx = omega arith
locals_small rs n small Rsp = omega arith
locals_small rs n small Rbp = omega arith
locals_small rs n small R8 = omega arith
locals_small rs n small R9 = omega arith
locals_small rs n small R10 = omega arith
locals_small rs n small R11 = omega arith

-- those in which parameters arrive too
pub arrived_small : (c : Cpu) → length c.registers ≡ 16 → AllSmall c.registers
    → (i : ℕ) → arrived_in c i < 2 ^ 64
arrived_small c n small i = by (i == 0) (i == 1) (i == 2)
  where
    by : (x y z : Bool)
        → slice_index c.registers (number (cond x Rcx (cond y Rdx (cond z R8 R9)))) < 2 ^ 64
    by true y z = small 1 (omega arith)
    by false true z = small 2 (omega arith)
    by false false true = small 8 (omega arith)
    by false false false = small 9 (omega arith)

-- a state is made of its registers
pub is_machine : (s : State) → length s.cpu.registers ≡ 16
    → s ≡ machine (seen_by_templates s) s.cpu.rip s.cpu.flags
is_machine s e = ap (λ rs. let u : State =
    record s { cpu = record { registers = rs; rip = s.cpu.rip; flags = s.cpu.flags } } in u)
    (registers_are s.cpu.registers e)

module _ (setting : Setting) where
  open setting use {functions as t, funclets as fs, program, plan as p, image}

  -- the body that runs has as many locals in its activation as its code names
  abbrev pub IsCounted : Configuration → Type 0
  IsCounted c = (b : LinearBody) → body_of program c.frame.body ≡ Some b
      → length (linear.locals_of c.store c.frame.activation) ≡ b.locals

  module _ (s : State) (c : Configuration) (b : RepresentsAt setting s c) (counted : IsCounted c)
    where
      abbrev code : LinearBody
      code = b.body.slots.code

      abbrev sp : ℕ
      sp = register s.cpu Rsp

      -- the registers in which its locals may stand
      abbrev now : ℕ → ℕ
      now = now_of (p.leaf c.frame.body) s.cpu

      -- and those in which a leaf function's parameters arrive
      abbrev arrived : ℕ → ℕ
      arrived = arrived_in s.cpu

      pub sp_low : STACK_START + 196568 ≤ sp
      sp_low = let s = b.body.slots.space.space in let d = b.body.slots.space.shallow in omega arith

      pub frame_top : sp + (p.layout c.frame.body).frame + 8 ≤ STACK_END
      frame_top =
          let o = b.body.below in
          in_stack t fs program p s.memory (context_below b.body.back
          (sp + (p.layout c.frame.body).frame + 8) b.body.others) b.body.is c.below
          (activations_below c.frame.body b.body.acts) o.is_there.stack o.is_there.linked

      values_count : (values : List ℕ) → slice_get (locals_of b.body.acts) c.frame.activation
          ≡ Some values → length values ≡ code.locals
      values_count values e =
          let same : linear.locals_of c.store c.frame.activation ≡ values =
          ap (λ x. elim (slice_get x c.frame.activation) [ Some locals ↦ locals | None ↦ [] ])
          b.body.store ∙ ap (λ x. elim x [ Some locals ↦ locals | None ↦ [] ]) e in
          ap length (sym same) ∙ counted code b.body.slots.body

      -- where its slots are, with the numbers of the locals that its code reaches
      abbrev Placed : Type 0
      Placed = LocalsPlaced s.memory now (p.register c.frame.body)
          (IsReached p c.frame.body) (p.layout c.frame.body) code.temporaries sp
          c.frame.activation b.body.acts

      -- a function's layout, of its kind
      layout_if : (f : ℕ) (leaf : Bool) → c.frame.body ≡ FunctionBody f
          → p.leaf c.frame.body ≡ leaf → IsLaidOut program p (FunctionBody f) code
          → IsLayoutIf program p (weight_of (slice_get program.functions f))
          (p.layout c.frame.body) code leaf
      layout_if f leaf name is layouts =
          let weight = weight_of (slice_get program.functions f) in
          subst (λ l. IsLayoutIf program p weight (p.layout c.frame.body) code l) is
          (subst (λ n. IsLayoutIf program p weight (p.layout n) code (p.leaf n)) (sym name) layouts)

      by_leaf : (f : ℕ) (leaf : Bool) → c.frame.body ≡ FunctionBody f → p.leaf c.frame.body ≡ leaf
          → IsLaidOut program p (FunctionBody f) code
          → HasActivation s.memory now (p.register c.frame.body)
          (p.layout c.frame.body) sp
          (slots_end (p.layout c.frame.body) leaf)
          c.frame.activation b.body.acts (FunctionBody f)
          → Placed
      by_leaf f true name is layouts h =
          let low = sp_low in
          leaf_placed s.memory now (p.register c.frame.body)
          (IsReached p c.frame.body) (p.layout c.frame.body) code sp c.frame.activation f
          b.body.acts (layout_if f true name is layouts) (omega arith) (b.body.home is) h
      by_leaf f false name is layouts h =
          let low = sp_low in
          let top = frame_top in
          function_placed s.memory now (p.register c.frame.body)
          (IsReached p c.frame.body) (p.layout c.frame.body) code sp c.frame.activation f
          b.body.acts (weight_of (slice_get program.functions f))
          (layout_if f false name is layouts) (omega arith) (omega arith) h

      by_funclet : (k : ℕ) → c.frame.body ≡ FuncletBody k → IsFuncletPlan program p k code
          → HasActivation s.memory now (p.register c.frame.body)
          (p.layout c.frame.body) sp (p.layout c.frame.body).slots
          c.frame.activation b.body.acts (FuncletBody k)
          → Placed
      by_funclet k name plan h =
          let low = sp_low in
          let o = b.body.below in
          let y = p.layout c.frame.body in
          let function_plan : IsLaidOut program p (FunctionBody plan.funclet.function)
          plan.function = image.laid_out (FunctionBody plan.funclet.function) plan.function
          plan.function_there in
          let weight = weight_of (slice_get program.functions plan.funclet.function) in
          let function_layout = subst (λ l. IsLayoutIf program p weight
          (p.layout (FunctionBody plan.funclet.function)) plan.function l) plan.function_framed
          function_plan in
          let wide = function_layout.locals in
          let small = function_layout.small in
          let light = function_layout.light in
          let same = plan.same_locals in
          let spared : (i : ℕ) → IsReached p c.frame.body i → p.register c.frame.body i ≡ None =
          subst (λ n. (i : ℕ) → IsReached p n i → p.register n i ≡ None) (sym name)
          (λ i reached. reached) in
          funclet_placed t fs program p s.memory now (p.register c.frame.body)
          (IsReached p c.frame.body) spared y (p.layout (FunctionBody plan.funclet.function))
          code sp c.frame.activation k b.body.acts
          (context_below b.body.back (sp + y.frame + 8) b.body.others) b.body.is c.below
          (subst (λ n. IsFuncletLayout (p.layout n) (p.layout (FunctionBody plan.funclet.function))
          code) (sym name) plan.layout) (omega arith) refl
          (subst (λ n. IsLinkedStack t fs program p s.memory
          (context_below b.body.back (sp + y.frame + 8) b.body.others) b.body.is c.below
          (activations_below n b.body.acts)) name o.is_there) h
          (λ values e. let n = values_count values e in omega arith) (omega arith)

      by_name : (name : BodyName) → c.frame.body ≡ name
          → HasActivation s.memory now (p.register c.frame.body)
          (p.layout c.frame.body) sp
          (slots_end (p.layout c.frame.body) (p.leaf c.frame.body)) c.frame.activation b.body.acts
          name
          → Placed
      by_name (FunctionBody f) name h = by_leaf f (p.leaf c.frame.body) name refl
          (subst (λ n. IsLaidOut program p n code) name
          (image.laid_out c.frame.body code b.body.slots.body)) h
      by_name (FuncletBody k) name h =
          let plan : IsFuncletPlan program p k code = subst (λ n. IsLaidOut program p n code) name
          (image.laid_out c.frame.body code b.body.slots.body) in
          by_funclet k name plan
          (subst (λ l. HasActivation s.memory now (p.register c.frame.body)
          (p.layout c.frame.body) sp
          (slots_end (p.layout c.frame.body) l) c.frame.activation b.body.acts (FuncletBody k))
          (ap p.leaf name ∙ plan.framed) h)

      pub locals_placed : Placed
      locals_placed = by_name c.frame.body refl b.body.slots.activation

      abbrev pub placed : SlotsPlaced s.memory (p.layout c.frame.body) code.temporaries sp
          c.frame.activation
          b.body.acts
      placed = locals_placed.slots

      pub count : length placed.values ≡ code.locals
      count = values_count placed.values placed.number

      pub room_here : Roomy (frame_at program p c.frame.body code sp placed.base arrived)
      room_here = room_of s.memory (p.layout c.frame.body) (counts_of code) sp c.frame.activation
          b.body.acts placed count

      pub holds_here : FrameHolds (frame_at program p c.frame.body code sp placed.base arrived)
          (local_registers s.cpu.registers) s.memory (state_of program p s c placed.base)
      holds_here = holds_of program.globals s.memory c.store.memory (p.layout c.frame.body)
          (counts_of code) sp c.frame.activation b.body.acts arrived
          (local_registers s.cpu.registers) placed count
          (arrived_small s.cpu b.well_formed.count b.well_formed.small)
          (locals_small s.cpu.registers b.well_formed.count b.well_formed.small)
          b.memory.data_alone.bytes
          b.memory.stack b.memory.agrees

      pub slots_here : HasSlotsOf program p c code (state_of program p s c placed.base)
      slots_here = record {
        locals = λ i lt reached. number_of_place setting c.frame.body code b.body.slots.body s.cpu
            s.memory placed.base i (local_of c.store c.frame.activation i) arrived (λ lt. refl)
            reached
            (local_is s.memory now (p.register c.frame.body)
            (IsReached p c.frame.body) (p.layout c.frame.body) code.temporaries sp i b.body.acts c
            b.body.store locals_placed (let n = count in omega arith) reached);
        temporaries = λ i v e. temporary_is s.memory (p.layout c.frame.body) sp _ i v
            c.frame.temporaries b.body.slots.temporaries e;
        source = refl;
      }

      -- ---- which kind of body it is

      pub record AsFunction : Type 0 where
        pub number : ℕ
        pub name : c.frame.body ≡ FunctionBody number
        pub framed : p.leaf c.frame.body ≡ false
        pub layout : IsFunctionLayout (weight_of (slice_get program.functions number))
            (p.layout c.frame.body) code
        pub activation : HasActivation s.memory now (p.register c.frame.body)
            (p.layout c.frame.body) sp
            (p.layout c.frame.body).slots c.frame.activation b.body.acts (FunctionBody number)

      pub record AsLeaf : Type 0 where
        pub number : ℕ
        pub name : c.frame.body ≡ FunctionBody number
        pub leaf : p.leaf c.frame.body ≡ true
        pub layout : IsLeafLayout (p.layout c.frame.body) code
        pub activation : HasActivation s.memory now (p.register c.frame.body)
            (p.layout c.frame.body) sp
            (p.layout c.frame.body).temporaries c.frame.activation b.body.acts (FunctionBody number)

      pub record AsFunclet : Type 0 where
        pub number : ℕ
        pub name : c.frame.body ≡ FuncletBody number
        pub framed : p.leaf c.frame.body ≡ false
        pub plan : IsFuncletPlan program p number code
        pub layout : IsFuncletLayout (p.layout c.frame.body)
            (p.layout (FunctionBody plan.funclet.function)) code
        pub activation : HasActivation s.memory now (p.register c.frame.body)
            (p.layout c.frame.body) sp
            (p.layout c.frame.body).slots c.frame.activation b.body.acts (FuncletBody number)

      kind_by_leaf : (f : ℕ) (leaf : Bool) → c.frame.body ≡ FunctionBody f
          → p.leaf c.frame.body ≡ leaf → IsLaidOut program p (FunctionBody f) code
          → HasActivation s.memory now (p.register c.frame.body)
          (p.layout c.frame.body) sp
          (slots_end (p.layout c.frame.body) leaf)
          c.frame.activation b.body.acts (FunctionBody f)
          → AsFunction ⊎ (AsLeaf ⊎ AsFunclet)
      kind_by_leaf f true name is layouts h = inr (inl (record {
        number = f;
        name = name;
        leaf = is;
        layout = layout_if f true name is layouts;
        activation = h;
      }))
      kind_by_leaf f false name is layouts h = inl (record {
        number = f;
        name = name;
        framed = is;
        layout = layout_if f false name is layouts;
        activation = h;
      })

      kind_by_name : (name : BodyName) → c.frame.body ≡ name
          → HasActivation s.memory now (p.register c.frame.body)
          (p.layout c.frame.body) sp
          (slots_end (p.layout c.frame.body) (p.leaf c.frame.body)) c.frame.activation b.body.acts
          name → AsFunction ⊎ (AsLeaf ⊎ AsFunclet)
      kind_by_name (FunctionBody f) name h = kind_by_leaf f (p.leaf c.frame.body) name refl
          (subst (λ n. IsLaidOut program p n code) name
          (image.laid_out c.frame.body code b.body.slots.body)) h
      kind_by_name (FuncletBody k) name h =
          let plan : IsFuncletPlan program p k code = subst (λ n. IsLaidOut program p n code) name
          (image.laid_out c.frame.body code b.body.slots.body) in
          let framed : p.leaf c.frame.body ≡ false = ap p.leaf name ∙ plan.framed in
          inr (inr (record {
            number = k;
            name = name;
            framed = framed;
            plan = plan;
            layout = subst (λ n. IsFuncletLayout (p.layout n)
                (p.layout (FunctionBody plan.funclet.function)) code) (sym name) plan.layout;
            activation = subst (λ l. HasActivation s.memory now
                (p.register c.frame.body) (p.layout c.frame.body) sp
                (slots_end (p.layout c.frame.body) l) c.frame.activation b.body.acts
                (FuncletBody k))
                framed h;
          }))

      pub kind : AsFunction ⊎ (AsLeaf ⊎ AsFunclet)
      kind = kind_by_name c.frame.body refl b.body.slots.activation

      -- the temporaries have room
      pub last_room : (p.layout c.frame.body).temporaries + 8 * code.temporaries
          ≤ last_temporary (p.layout c.frame.body) c.frame.body (p.leaf c.frame.body)
      last_room = elim kind [
        | inl f ↦ subst (λ l. (p.layout c.frame.body).temporaries + 8 * code.temporaries
            ≤ last_temporary (p.layout c.frame.body) c.frame.body l) (sym f.framed)
            (subst (λ n. (p.layout c.frame.body).temporaries + 8 * code.temporaries
            ≤ temporaries_end (p.layout c.frame.body) n (p.layout c.frame.body).slots) (sym f.name)
            f.layout.temporaries)
        | inr (inl f) ↦ subst (λ l. (p.layout c.frame.body).temporaries + 8 * code.temporaries
            ≤ last_temporary (p.layout c.frame.body) c.frame.body l) (sym f.leaf)
            (let a = f.layout.temporaries in let z = f.layout.few in omega arith)
        | inr (inr f) ↦ subst (λ l. (p.layout c.frame.body).temporaries + 8 * code.temporaries
            ≤ last_temporary (p.layout c.frame.body) c.frame.body l) (sym f.framed)
            (subst (λ n. (p.layout c.frame.body).temporaries + 8 * code.temporaries
            ≤ temporaries_end (p.layout c.frame.body) n (p.layout c.frame.body).slots) (sym f.name)
            f.layout.temporaries)
      ]

      -- the locals that linear code has here are the activation's
      pub locals_here : linear.locals_of c.store c.frame.activation ≡ placed.values
      locals_here =
          ap (λ x. elim (slice_get x c.frame.activation) [ Some locals ↦ locals | None ↦ [] ])
          b.body.store ∙ ap (λ x. elim x [ Some locals ↦ locals | None ↦ [] ]) placed.number
