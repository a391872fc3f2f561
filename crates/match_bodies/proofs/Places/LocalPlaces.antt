-- The locals of a body one by one, in their registers and in their words of the frame.
use Rattle.std.proofs.Common.{◌≡◌, ℕ, zero, suc, ◌+◌, ◌*◌, ◌<◌, ◌≤◌, Bool, true, Option, Some, None, Ok, List, [], ◌∷◌, length, refl, sym, ap, subst, ◌∙◌, arith}
use Rattle.std.specs.Prelude.{slice_get, slice_set}
use Rattle.x64_machine.specs.declared.cpu.Cpu.{Cpu}
use Rattle.x64_instr.specs.Registers.{number}
use Rattle.template_code.proofs.Places.{arriving_low}
use Rattle.x64_templates.specs.Locals.{is_of_local}
use Rattle.x64_templates.proofs.Locals.{place_is_local}
use Rattle.match_bodies.specs.Words.{Memory, Reg, word, Layout, LinearBody, BodyName, FunctionBody, FuncletBody, body_of, IsInPlace, HoldsPlaces, IsInFrame, FrameWords, IsLeft, LeavesRegisters, IsFuncletPlan, IsReached, Setting, Place, InRegister, InFrame, place_of, register_number, register_of, local_registers, number_placed, now_of, Arriving, arrived_in, parameter_register}
use Rattle.match_bodies.proofs.Places.LocalRegisters.{now_local}
use Rattle.match_bodies.proofs.Places.StackTop.{arrives_in_leaf}
use Rattle.match_bodies.proofs.Places.StackWords.{word_is}

some_same : (a b : ℕ) → Some a ≡ Some b → a ≡ b
some_same a b e = cc

-- ---- a list of places

module _ (m : Memory) (now : ℕ → ℕ) (register : ℕ → Option ℕ) where
  moved : (at to i j v : ℕ) → at ≡ to → i ≡ j → IsInPlace m now at v (register i)
      → IsInPlace m now to v (register j)
  moved at to i j v e f h = subst (λ x. IsInPlace m now to v (register x)) f
      (subst (λ x. IsInPlace m now x v (register i)) e h)

  place_from : (i at end : ℕ) (vs : List ℕ) (j v : ℕ) → HoldsPlaces m now register i at end vs
      → slice_get vs j ≡ Some v → IsInPlace m now (at + 8 * j) v (register (i + j))
  place_from i at end [] j v h e = cc
  place_from i at end (x ∷ vs) zero v h e =
      moved at (at + 8 * 0) i (i + 0) v (omega arith) (omega arith)
      (subst (λ w. IsInPlace m now at w (register i)) (some_same x v e) h.0)
  place_from i at end (x ∷ vs) (suc j) v h e =
      moved (at + 8 + 8 * j) (at + 8 * suc j) (i + 1 + j) (i + suc j) v (omega arith) (omega arith)
      (place_from (i + 1) (at + 8) end vs j v h.1 e)

  -- each of them is in its place
  pub place_in : (at end : ℕ) (vs : List ℕ) (j v : ℕ) → HoldsPlaces m now register 0 at end vs
      → slice_get vs j ≡ Some v → IsInPlace m now (at + 8 * j) v (register j)
  place_in at end vs j v h e = moved (at + 8 * j) (at + 8 * j) (0 + j) j v refl (omega arith)
      (place_from 0 at end vs j v h e)

  places_from : (i at end : ℕ) (vs : List ℕ) → at + 8 * length vs ≤ end
      → ((j v : ℕ) → slice_get vs j ≡ Some v → IsInPlace m now (at + 8 * j) v (register (i + j)))
      → HoldsPlaces m now register i at end vs
  places_from i at end [] le h = omega arith
  places_from i at end (v ∷ vs) le h = (
    moved (at + 8 * 0) at (i + 0) i v (omega arith) (omega arith) (h 0 v refl),
    places_from (i + 1) (at + 8) end vs (omega arith)
        (λ j w e. moved (at + 8 * suc j) (at + 8 + 8 * j) (i + suc j) (i + 1 + j) w (omega arith)
        (omega arith) (h (suc j) w e)),
  )

  -- and where each is, they all are
  pub places_are : (at end : ℕ) (vs : List ℕ) → at + 8 * length vs ≤ end
      → ((j v : ℕ) → slice_get vs j ≡ Some v → IsInPlace m now (at + 8 * j) v (register j))
      → HoldsPlaces m now register 0 at end vs
  places_are at end vs le h = places_from 0 at end vs le
      (λ j v e. moved (at + 8 * j) (at + 8 * j) j (0 + j) v refl (omega arith) (h j v e))

-- ---- the words of a frame

module _ (m : Memory) (register : ℕ → Option ℕ) where
  word_from : (i at end : ℕ) (vs : List ℕ) (j v : ℕ) → FrameWords m register i at end vs
      → slice_get vs j ≡ Some v → register (i + j) ≡ None → word m (at + 8 * j) ≡ Ok v
  word_from i at end [] j v h e none = cc
  word_from i at end (x ∷ vs) zero v h e none =
      let z : at ≡ at + 8 * 0 = omega arith in
      let first : i + 0 ≡ i = omega arith in
      subst (λ a. word m a ≡ Ok v) z
      (subst (IsInFrame m at v) (ap register (sym first) ∙ none)
      (subst (λ w. IsInFrame m at w (register i)) (some_same x v e) h.0))
  word_from i at end (x ∷ vs) (suc j) v h e none =
      let z : at + 8 + 8 * j ≡ at + 8 * suc j = omega arith in
      let next : i + 1 + j ≡ i + suc j = omega arith in
      subst (λ a. word m a ≡ Ok v) z
      (word_from (i + 1) (at + 8) end vs j v h.1 e (ap register next ∙ none))

  -- the word of a local that is in no register
  pub frame_word_in : (at end : ℕ) (vs : List ℕ) (j v : ℕ) → FrameWords m register 0 at end vs
      → slice_get vs j ≡ Some v → register j ≡ None → word m (at + 8 * j) ≡ Ok v
  frame_word_in at end vs j v h e none =
      let same : 0 + j ≡ j = omega arith in
      word_from 0 at end vs j v h e (ap register same ∙ none)

  framed : (at v : ℕ) (o : Option ℕ) → (o ≡ None → word m at ≡ Ok v) → IsInFrame m at v o
  framed at v None h = h refl
  framed at v (Some r) h = tt

  words_from : (i at end : ℕ) (vs : List ℕ) → at + 8 * length vs ≤ end
      → ((j v : ℕ) → slice_get vs j ≡ Some v → register (i + j) ≡ None
      → word m (at + 8 * j) ≡ Ok v) → FrameWords m register i at end vs
  words_from i at end [] le h = omega arith
  words_from i at end (v ∷ vs) le h = (
    framed at v (register i)
        (λ none. let z : at + 8 * 0 ≡ at = omega arith in let first : i + 0 ≡ i = omega arith in
        subst (λ a. word m a ≡ Ok v) z (h 0 v refl (ap register first ∙ none))),
    words_from (i + 1) (at + 8) end vs (omega arith)
        (λ j w e none. let z : at + 8 * suc j ≡ at + 8 + 8 * j = omega arith in
        let next : i + suc j ≡ i + 1 + j = omega arith in
        subst (λ a. word m a ≡ Ok w) z (h (suc j) w e (ap register next ∙ none))),
  )

  -- and of them all
  pub frame_words_are : (at end : ℕ) (vs : List ℕ) → at + 8 * length vs ≤ end
      → ((j v : ℕ) → slice_get vs j ≡ Some v → register j ≡ None → word m (at + 8 * j) ≡ Ok v)
      → FrameWords m register 0 at end vs
  frame_words_are at end vs le h = words_from 0 at end vs le
      (λ j v e none. let same : j ≡ 0 + j = omega arith in
      h j v e (ap register same ∙ none))

-- ---- registers of locals that are left alone

-- the same numbers
pub leaves_same : (register : ℕ → Option ℕ) (i : ℕ) (vs : List ℕ)
    → LeavesRegisters register i vs vs
leaves_same register i [] = tt
leaves_same register i (v ∷ vs) = (same (register i), leaves_same register (i + 1) vs)
  where
    same : (o : Option ℕ) → IsLeft v v o
    same None = tt
    same (Some r) = refl

left_free : (v w : ℕ) (o : Option ℕ) → o ≡ None → IsLeft v w o
left_free v w o e = subst (IsLeft v w) (sym e) tt

set_from : (register : ℕ → Option ℕ) (i : ℕ) (vs : List ℕ) (x w : ℕ) → register (i + x) ≡ None
    → LeavesRegisters register i vs (slice_set vs x w)
set_from register i [] x w none = tt
set_from register i (v ∷ vs) zero w none =
    let first : i ≡ i + 0 = omega arith in
    (left_free v w (register i) (ap register first ∙ none), leaves_same register (i + 1) vs)
set_from register i (v ∷ vs) (suc x) w none =
    let next : i + 1 + x ≡ i + suc x = omega arith in
    let rest = set_from register (i + 1) vs x w (ap register next ∙ none) in
    let here = leaves_same register i (v ∷ vs) in
    (here.0, rest)

-- another number in a local that is in no register
pub leaves_set : (register : ℕ → Option ℕ) (vs : List ℕ) (x w : ℕ) → register x ≡ None
    → LeavesRegisters register 0 vs (slice_set vs x w)
leaves_set register vs x w none =
    let same : 0 + x ≡ x = omega arith in set_from register 0 vs x w (ap register same ∙ none)

-- ---- registers as templates see them

module _ (leaf : Bool) (c : Cpu) (m : Memory) (y : Layout) (base i v : ℕ) (arrived : ℕ → ℕ) where
  abbrev IsOfLocal : Place → Type 0
  IsOfLocal q = (r : Reg) → q ≡ InRegister r → is_of_local r ≡ true

  -- a parameter that stays in its register is a leaf function's, and has this number there
  abbrev HasStayed : Place → Type 0
  HasStayed q = q ≡ Arriving → (leaf ≡ true) × (arrived i ≡ arrived_in c i)

  abbrev Number : Place → ℕ
  Number q = number_placed y base arrived (local_registers c.registers) m i q

  abbrev In : Place → Type 0
  In q = IsInPlace m (now_of leaf c) (base + y.locals + 8 * i) v (register_number i q)

  -- all registers of a leaf function
  all_now : leaf ≡ true → now_of leaf c (number (parameter_register i)) ≡ arrived_in c i
  all_now e = ap (λ (l : Bool). now_of l c (number (parameter_register i))) e

  number_at_place : (q : Place) → IsOfLocal q → HasStayed q → In q → Number q ≡ v
  number_at_place (InRegister r) is stayed h = sym (now_local leaf c r (is r refl)) ∙ h
  number_at_place InFrame is stayed h =
      let at : base + y.locals + 8 * i ≡ base + (y.locals + 8 * i) = omega arith in
      word_is m (base + (y.locals + 8 * i)) v (subst (λ a. word m a ≡ Ok v) at h)
  number_at_place Arriving is stayed h =
      (stayed refl).1 ∙ sym (all_now (stayed refl).0) ∙ h

  place_of_number : (q : Place) → IsOfLocal q → HasStayed q
      → (number_placed y base arrived (local_registers c.registers) m i InFrame ≡ v
      → word m (base + y.locals + 8 * i) ≡ Ok v) → Number q ≡ v → In q
  place_of_number (InRegister r) is stayed frame e = now_local leaf c r (is r refl) ∙ e
  place_of_number InFrame is stayed frame e = frame e
  place_of_number Arriving is stayed frame e =
      all_now (stayed refl).0 ∙ sym (stayed refl).1 ∙ e

module _ (setting : Setting) where
  open setting use {functions as t, funclets as fs, program, plan as p, sites as q, image}

  -- a local that a body's code may name stands where its layout says
  pub reached_register : (name : BodyName) (b : LinearBody) → body_of program name ≡ Some b
      → (i : ℕ) → IsReached p name i → p.register name i ≡ register_of (p.layout name) i
  reached_register (FunctionBody f) b there i h = image.registers f i
  reached_register (FuncletBody k) b there i h =
      let plan : IsFuncletPlan program p k b = image.laid_out (FuncletBody k) b there in
      h ∙ sym (ap (register_number i) (plan.layout.in_frame i))

  module _ (name : BodyName) (b : LinearBody) (there : body_of program name ≡ Some b) (c : Cpu)
      (m : Memory) (base i v : ℕ) (arrived : ℕ → ℕ)
      (stays : i < (p.layout name).arrivals → arrived i ≡ arrived_in c i)
      (reached : IsReached p name i) where
    abbrev y : Layout
    y = p.layout name

    stayed : place_of y i ≡ Arriving → (p.leaf name ≡ true) × (arrived i ≡ arrived_in c i)
    stayed e =
        let low = arriving_low y i e in
        (arrives_in_leaf t fs program p q image name b there i low, stays low)

    -- so templates see there the number that it has
    pub number_of_place
        : IsInPlace m (now_of (p.leaf name) c) (base + y.locals + 8 * i) v (p.register name i)
        → number_placed y base arrived (local_registers c.registers) m i (place_of y i) ≡ v
    number_of_place h = number_at_place (p.leaf name) c m y base i v arrived (place_of y i)
        (λ r e. place_is_local y i r e) stayed
        (subst (IsInPlace m (now_of (p.leaf name) c) (base + y.locals + 8 * i) v)
        (reached_register name b there i reached) h)

    -- and what they leave there it has
    pub place_of_local
        : (number_placed y base arrived (local_registers c.registers) m i InFrame ≡ v
        → word m (base + y.locals + 8 * i) ≡ Ok v)
        → number_placed y base arrived (local_registers c.registers) m i (place_of y i) ≡ v
        → IsInPlace m (now_of (p.leaf name) c) (base + y.locals + 8 * i) v (p.register name i)
    place_of_local frame e =
        subst (IsInPlace m (now_of (p.leaf name) c) (base + y.locals + 8 * i) v)
        (sym (reached_register name b there i reached))
        (place_of_number (p.leaf name) c m y base i v arrived (place_of y i)
        (λ r d. place_is_local y i r d) stayed frame e)
