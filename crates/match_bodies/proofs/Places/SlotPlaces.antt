-- The running body as templates see it.
use Rattle.std.proofs.Common.{◌≡◌, ℕ, zero, suc, ◌+◌, ◌*◌, ◌^◌, ◌<◌, ◌≤◌, true, Option, Some, None, Ok, List, [], ◌∷◌, ◌++◌, length, refl, sym, ap, subst, ◌∙◌, arith, inl, inr}
use Rattle.std.specs.Prelude.{◌⊎◌, slice_get, slice_index, nat_le, nat_lt}
use Rattle.std.proofs.lemmas.Bool.{le-leb, lt-ltb}
use Rattle.match_bodies.specs.Words.{STACK_START, STACK_END, Memory, may_write, number_at, rsp, word, Functions, Funclet, is_hidden, Counts, LinearProgram, LinearBody, FunctionBody, FuncletBody, Configuration, local_of, Layout, InTemporaries, InLocals, Agrees, IsBytes, Context, Item, StackItem, IsLinkedStack, ImagePlan, Activation, locals_of, HoldsWords, IsInPlace, HasActivation, home_end, IsFunctionLayout, IsLeafLayout, IsFuncletLayout, HasBase, SlotsHaveRoom, MemoryKeepsBase, KeepsReserved, HoldsBody, LocalRegisters, local_in}
use Rattle.x64_instr.specs.declared.register.Reg.{Reg}
use Rattle.linear_machine.specs.Frames as linear
use Rattle.x64_templates.specs.EntryStates.{body_in_memory}
use Rattle.x64_templates.proofs.Entries.{holds_body_in_memory}
use Rattle.match_bodies.proofs.Lemmas.{places_fit, in_stack}
use Rattle.match_bodies.proofs.Places.ActivationPlaces.{activations_are_at, got_last, locals_count}
use Rattle.match_bodies.proofs.Places.LocalPlaces.{place_in, frame_word_in}
use Rattle.match_bodies.proofs.Places.StackWords.{word_is, word_in}

-- where the base is kept: a function's is RSP, a funclet keeps it below its temporaries
pub record KeepsWord (m : Memory) (y : Layout) (slot sp base : ℕ) : Type 0 where
  pub word_is : word m (sp + slot) ≡ Ok base
  pub below_temporaries : slot + 8 ≤ y.temporaries
  pub below_locals : sp + (slot + 8) ≤ base + y.locals
  pub in_stack : sp + slot + 8 ≤ STACK_END
  pub above_frame : sp + y.frame + 8 ≤ base

abbrev pub KeepsSlot : Memory → Layout → Option ℕ → (sp base : ℕ) → Type 0
KeepsSlot m y None sp base = base ≡ sp
KeepsSlot m y (Some slot) sp base = KeepsWord m y slot sp base

-- where a body's slots are: the room of its activation's locals, and that of its temporaries
pub record SlotsPlaced (m : Memory) (y : Layout) (temporaries sp k : ℕ)
    (acts : List Activation) : Type 0 where
  pub base : ℕ
  pub values : List ℕ
  pub number : slice_get (locals_of acts) k ≡ Some values
  pub sp_low : STACK_START ≤ sp
  pub sp_high : sp + y.temporaries + 8 * temporaries ≤ STACK_END
  pub base_low : STACK_START ≤ base
  pub base_high : base + y.locals + 8 * length values ≤ STACK_END
  pub temporaries_small : y.temporaries + 8 * temporaries < 2 ^ 31
  pub locals_small : y.locals + 8 * length values < 2 ^ 31
  pub apart : (base + (y.locals + 8 * length values) ≤ sp + y.temporaries)
      ⊎ (sp + (y.temporaries + 8 * temporaries) ≤ base + y.locals)
  pub kept : KeepsSlot m y y.base sp base

-- and the locals that its code reaches have their numbers there
pub record LocalsPlaced (m : Memory) (now : ℕ → ℕ) (register : ℕ → Option ℕ)
    (Reached : ℕ → Type 0) (y : Layout) (temporaries sp k : ℕ) (acts : List Activation) : Type 0
  where
    pub slots : SlotsPlaced m y temporaries sp k acts
    pub local : (i v : ℕ) → Reached i → slice_get slots.values i ≡ Some v
        → IsInPlace m now (slots.base + y.locals + 8 * i) v (register i)

-- ---- a function's own activation

own_number : (a : Activation) (outer : List Activation) (k : ℕ) → k ≡ length outer
    → slice_get (locals_of (a ∷ outer)) k ≡ Some a.values
own_number a outer k e =
    let n : length (locals_of outer) ≡ k = locals_count outer ∙ sym e in
    subst (λ x. slice_get (locals_of outer ++ a.values ∷ []) x ≡ Some a.values) n
    (got_last (locals_of outer) a.values)

-- locals and temporaries lie apart in the first bytes from RSP on
own_placed : (m : Memory) (now : ℕ → ℕ) (register : ℕ → Option ℕ) (Reached : ℕ → Type 0)
    (y : Layout) (temporaries sp size k f room : ℕ) (a : Activation) (outer : List Activation)
    → y.base ≡ None → HasActivation m now register y sp size k (a ∷ outer) (FunctionBody f)
    → STACK_START ≤ sp → sp + room ≤ STACK_END → room < 2 ^ 31
    → y.temporaries + 8 * temporaries ≤ room → y.locals + 8 * length a.values ≤ room
    → (sp + (y.locals + 8 * length a.values) ≤ sp + y.temporaries)
    ⊎ (sp + (y.temporaries + 8 * temporaries) ≤ sp + y.locals)
    → LocalsPlaced m now register Reached y temporaries sp k (a ∷ outer)
own_placed m now register Reached y temporaries sp size k f room a outer none h low high small
    temps locals apart =
    record {
      slots = record {
        base = sp;
        values = a.values;
        number = own_number a outer k h.activation.number;
        sp_low = low;
        sp_high = omega arith;
        base_low = low;
        base_high = omega arith;
        temporaries_small = omega arith;
        locals_small = omega arith;
        apart = apart;
        kept = subst (λ o. KeepsSlot m y o sp sp) (sym none) refl;
      };
      local = λ i v reached e. place_in m now register (sp + y.locals) (sp + size) a.values i v
          h.values e;
    }

pub function_placed : (m : Memory) (now : ℕ → ℕ) (register : ℕ → Option ℕ) (Reached : ℕ → Type 0)
    (y : Layout) (b : LinearBody) (sp k f : ℕ)
    (acts : List Activation) (weight : ℕ) → IsFunctionLayout weight y b → STACK_START ≤ sp → sp +
    y.frame ≤ STACK_END
    → HasActivation m now register y sp y.slots k acts (FunctionBody f)
    → LocalsPlaced m now register Reached y b.temporaries sp k acts
function_placed m now register Reached y b sp k f [] weight l low high h = absurd h
function_placed m now register Reached y b sp k f (a ∷ outer) weight l low high h =
    let w = places_fit m now register 0 (sp + y.locals) (sp + y.slots) a.values h.values in
    let t = l.temporaries in
    let small = l.small in
    let light = l.light in
    let more = l.locals in
    let within = l.within in
    own_placed m now register Reached y b.temporaries sp y.slots k f y.frame a outer l.none h low
    high (omega arith) (omega arith) (omega arith) (inr (omega arith))

pub leaf_placed : (m : Memory) (now : ℕ → ℕ) (register : ℕ → Option ℕ) (Reached : ℕ → Type 0)
    (y : Layout) (b : LinearBody) (sp k f : ℕ) (acts : List Activation)
    → IsLeafLayout y b → STACK_START ≤ sp → sp + home_end ≤ STACK_END
    → HasActivation m now register y sp y.temporaries k acts (FunctionBody f)
    → LocalsPlaced m now register Reached y b.temporaries sp k acts
leaf_placed m now register Reached y b sp k f [] l low high h = absurd h
leaf_placed m now register Reached y b sp k f (a ∷ outer) l low high h =
    let w = places_fit m now register 0 (sp + y.locals) (sp + y.temporaries) a.values h.values in
    let t = l.temporaries in
    let few = l.few in
    let first = l.locals in
    own_placed m now register Reached y b.temporaries sp y.temporaries k f home_end a outer l.none
    h low high (omega arith) (omega arith) (omega arith) (inl (omega arith))

-- ---- a funclet's, further up

same_slot : (x y : ℕ) → Some x ≡ Some y → x ≡ y
same_slot x y e = cc

module _ (t : Functions) (fs : List Funclet) (program : LinearProgram) (p : ImagePlan) where
  pub funclet_placed : (m : Memory) (now : ℕ → ℕ) (register : ℕ → Option ℕ)
      (Reached : ℕ → Type 0) → ((i : ℕ) → Reached i → register i ≡ None)
      → (y function : Layout) (b : LinearBody) (sp k j : ℕ)
      (acts : List Activation) (c : Context) (is : List StackItem) (items : List Item)
      → IsFuncletLayout y function b → STACK_START ≤ sp
      → rsp c ≡ sp + y.frame + 8 → IsLinkedStack t fs program p m c is items acts
      → HasActivation m now register y sp y.slots k acts (FuncletBody j)
      → ((values : List ℕ) → slice_get (locals_of acts) k ≡ Some values
      → 8 * length values < 2 ^ 30) → function.locals < 2 ^ 30
      → LocalsPlaced m now register Reached y b.temporaries sp k acts
  funclet_placed m now register Reached spared y function b sp k j acts c is items l low at list h
      few near =
      let a = activations_are_at t fs program p m c is items acts k h.base y.locals
      register list
      h.activation in
      let n = few a.values a.number in
      let up = a.low_end in
      let top = a.high_end in
      let temps = l.temporaries in
      let within = l.within in
      let small = l.small in
      let kept = l.kept in
      let locals = l.locals in
      let slot : h.slot ≡ l.slot = same_slot h.slot l.slot (sym h.some ∙ l.base) in
      let last = in_stack t fs program p m c is items acts list.stack list.linked in
      record {
        slots = record {
          base = h.base;
          values = a.values;
          number = a.number;
          sp_low = low;
          sp_high = omega arith;
          base_low = omega arith;
          base_high = a.high_end;
          temporaries_small = omega arith;
          locals_small = omega arith;
          apart = inr (omega arith);
          kept = subst (λ o. KeepsSlot m y o sp h.base) (sym h.some)
              (record {
                word_is = h.kept;
                below_temporaries = omega arith;
                below_locals = omega arith;
                in_stack = omega arith;
                above_frame = omega arith;
              });
        };
        local = λ i v reached e.
            let none = spared i reached in
            subst (IsInPlace m now (h.base + y.locals + 8 * i) v) (sym none)
            (frame_word_in m register (h.base + y.locals)
            (h.base + y.locals + 8 * length a.values) a.values i v a.holds e none);
      }

-- ---- what templates hold

pub stack_is_hidden : (globals : List ℕ) (a : ℕ) → STACK_START ≤ a → a < STACK_END
    → is_hidden globals a ≡ true
stack_is_hidden globals a l u =
    let low : nat_le 0x6FFF0000 a ≡ true = le-leb 0x6FFF0000 a (omega arith) in
    let high : nat_lt a 0x70800000 ≡ true = lt-ltb a 0x70800000 u in
    rw (low, high) refl

-- the room of a body's slots
pub room_of : (m : Memory) (y : Layout) (n : Counts) (sp k : ℕ) (acts : List Activation)
    → (h : SlotsPlaced m y n.temporaries sp k acts) → length h.values ≡ n.locals
    → SlotsHaveRoom y n sp h.base
room_of m y n sp k acts h count =
    let t = h.temporaries_small in
    let l = h.locals_small in
    let a = h.sp_high in
    let b = h.base_high in
    record {
      temporaries = t;
      locals = omega arith;
      high = omega arith;
      base_high = omega arith;
      apart = elim h.apart [ inl x ↦ inl (omega arith) | inr x ↦ inr (omega arith) ];
      kept_base = based y.base h.kept;
    }
  where
    based : (o : Option ℕ) → KeepsSlot m y o sp h.base → HasBase y o sp h.base
    based None e = e
    based (Some slot) e = (e.below_temporaries, e.below_locals)

keeps_base : (m : Memory) (y : Layout) (o : Option ℕ) (sp base : ℕ)
    → ((a : ℕ) → STACK_START ≤ a → a < STACK_END → may_write m a ≡ true) → STACK_START ≤ sp
    → KeepsSlot m y o sp base → MemoryKeepsBase o sp base m
keeps_base m y None sp base may low h = tt
keeps_base m y (Some slot) sp base may low h = let top = h.in_stack in
    (word_is m (sp + slot) base h.word_is, λ a l u. may a (omega arith) (omega arith))

keeps_reserved : (globals : List ℕ) (m : Memory) (y : Layout) (o : Option ℕ) (sp base : ℕ)
    → STACK_START ≤ sp → KeepsSlot m y o sp base → KeepsReserved o sp (is_hidden globals)
keeps_reserved globals m y None sp base low h = tt
keeps_reserved globals m y (Some slot) sp base low h = let top = h.in_stack in
    λ a l u. stack_is_hidden globals a (omega arith) (omega arith)

pub in_stack_slots : (m : Memory) (y : Layout) (n : Counts) (sp k : ℕ) (acts : List Activation)
    (a : ℕ) → (h : SlotsPlaced m y n.temporaries sp k acts) → length h.values ≡ n.locals
    → InTemporaries y n sp a ⊎ InLocals y n h.base a → (STACK_START ≤ a) × (a < STACK_END)
in_stack_slots m y n sp k acts a h count i =
    let low = h.sp_low in
    let high = h.sp_high in
    let base = h.base_low in
    let top = h.base_high in
    elim i [
      | inl x ↦ (let l = x.0 in let u = x.1 in (omega arith, omega arith))
      | inr
          x ↦ (let l = x.0 in let u = x.1 in (omega arith, omega arith))
    ]

pub holds_of : (globals : List ℕ) (m source : Memory) (y : Layout) (n : Counts) (sp k : ℕ)
    (acts : List Activation) (arrived : ℕ → ℕ) (l : LocalRegisters)
    → (h : SlotsPlaced m y n.temporaries sp k acts) → length h.values ≡ n.locals
    → ((i : ℕ) → arrived i < 2 ^ 64) → ((r : Reg) → local_in l r < 2 ^ 64) → IsBytes m →
    ((a : ℕ) → STACK_START ≤ a → a < STACK_END → may_write m a ≡ true)
    → Agrees (is_hidden globals) m source
    → HoldsBody y n (is_hidden globals) sp h.base arrived l m
    (body_in_memory y sp h.base arrived l m source)
holds_of globals m source y n sp k acts arrived l h count few small bytes may agrees =
    holds_body_in_memory y n (is_hidden globals) sp h.base arrived l m source few small bytes
    (keeps_base m y y.base sp h.base may h.sp_low h.kept)
    (λ a i. let r = in_stack_slots m y n sp k acts a h count i in may a r.0 r.1)
    (λ a i. let r = in_stack_slots m y n sp k acts a h count i in
    stack_is_hidden globals a r.0 r.1)
    (keeps_reserved globals m y y.base sp h.base h.sp_low h.kept)
    agrees

-- ---- the numbers

got : (vs : List ℕ) (i : ℕ) → i < length vs → slice_get vs i ≡ Some (slice_index vs i)
got [] i lt = absurd (omega arith)
got (x ∷ vs) zero lt = refl
got (x ∷ vs) (suc i) lt = got vs i (omega arith)

-- a local's place has the number that linear code has in it
pub local_is : (m : Memory) (now : ℕ → ℕ) (register : ℕ → Option ℕ) (Reached : ℕ → Type 0)
    (y : Layout) (temporaries sp i : ℕ) (acts : List Activation) (c : Configuration)
    → c.store.activations ≡ locals_of acts
    → (h : LocalsPlaced m now register Reached y temporaries sp c.frame.activation acts)
    → i < length h.slots.values → Reached i
    → IsInPlace m now (h.slots.base + y.locals + 8 * i) (local_of c.store c.frame.activation i)
    (register i)
local_is m now register Reached y temporaries sp i acts c store h lt reached =
    let vs = h.slots.values in
    let same : linear.locals_of c.store c.frame.activation ≡ vs =
    ap (λ x. elim (slice_get x c.frame.activation) [ Some locals ↦ locals | None ↦ [] ]) store
    ∙ ap (λ x. elim x [ Some locals ↦ locals | None ↦ [] ]) h.slots.number in
    subst (λ v. IsInPlace m now (h.slots.base + y.locals + 8 * i) v (register i))
    (sym (ap (λ x. slice_index x i) same))
    (h.local i (slice_index vs i) reached (got vs i lt))

pub temporary_is : (m : Memory) (y : Layout) (sp end i v : ℕ) (ts : List ℕ)
    → HoldsWords m (sp + y.temporaries) end ts → slice_get ts i ≡ Some v
    → number_at m.byte 8 (sp + (y.temporaries + 8 * i)) ≡ v
temporary_is m y sp end i v ts h e =
    let at : sp + y.temporaries + 8 * i ≡ sp + (y.temporaries + 8 * i) = omega arith in
    word_is m (sp + (y.temporaries + 8 * i)) v
    (subst (λ a. word m a ≡ Ok v) at (word_in m (sp + y.temporaries) end ts i v h e))
