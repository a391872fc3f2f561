-- A function's parameters go to its locals, and its first instruction begins.
use Rattle.std.proofs.Common.{◌≡◌, ℕ, zero, suc, ◌+◌, ◌-◌, ◌*◌, ◌^◌, ◌<◌, ◌≤◌, Bool, cond, Some, Ok, List, [], ◌∷◌, ◌++◌, length, refl, sym, ap, subst, ◌∙◌, arith, inl, inr, length-append}
use Rattle.std.specs.Prelude.{◌⊎◌, slice_get}
use Rattle.std.proofs.lemmas.Bool.{cases_eq, eq-eqb, ne_eqb}
use Rattle.std.proofs.lemmas.Option.{slice_get_within}
use Rattle.x64_instr.specs.declared.register.Reg.{Reg}
use Rattle.x64_machine.specs.declared.cpu.Cpu.{Cpu}
use Rattle.match_turns.specs.Words.{Memory, number_at, Slot, Local, with_slot, with_arguments, IsBytes, Layout, local_at, LocalRegisters, local_in, Place, InRegister, InFrame, Arriving, HoldsPlaces, local_registers, number_placed, LinearBody, FunctionBody, body_of, Setting, now_of, arrived_in}
use Rattle.template_code.specs.Places.{place_of}
use Rattle.virtual_unwind.specs.Undone.{word}
use Rattle.lowering_invariants.specs.SmallNumbers.{AreSmall}
use Rattle.match_turns.proofs.Lemmas.{number_small, places_are, place_of_local}

-- ---- arguments in locals

-- those before are as they were
arguments_before : (slots : Slot → ℕ) (arguments : ℕ → ℕ) (i n j : ℕ) → j < i
    → with_arguments slots arguments i n (Local j) ≡ slots (Local j)
arguments_before slots arguments i zero j lt = refl
arguments_before slots arguments i (suc n) j lt =
    arguments_before (with_slot slots (Local i) (arguments i)) arguments (i + 1) n j (omega arith)
    ∙ ap (λ (c : Bool). cond c (arguments i) (slots (Local j)))
    (ne_eqb j i (λ e. absurd (omega arith)))

pub argument_is : (slots : Slot → ℕ) (arguments : ℕ → ℕ) (i n j : ℕ) → i ≤ j → j < i + n
    → with_arguments slots arguments i n (Local j) ≡ arguments j
argument_is slots arguments i zero j le lt = absurd (omega arith)
argument_is slots arguments i (suc n) j le lt = elim (cases_eq j i) [
  | inl e ↦
      (subst (λ k. with_arguments (with_slot slots (Local i) (arguments i)) arguments (i + 1) n
      (Local k) ≡ arguments k) (sym e)
      (arguments_before (with_slot slots (Local i) (arguments i)) arguments (i + 1) n i
      (omega arith) ∙ ap (λ (c : Bool). cond c (arguments i) (slots (Local i)))
      (eq-eqb i i refl)))
  | inr ne ↦ argument_is (with_slot slots (Local i) (arguments i)) arguments (i + 1) n j
      (omega arith) (omega arith)
]

-- ---- lists of what locals have

-- the numbers of so many locals, from the one of a number on, in their registers and in memory
unfoldable pub numbers_placed : Layout → (base : ℕ) → (arrived : ℕ → ℕ) → LocalRegisters → Memory
    → (i n : ℕ) → List ℕ
numbers_placed y base r l m i zero = []
numbers_placed y base r l m i (suc n) =
    number_placed y base r l m i (place_of y i) ∷ numbers_placed y base r l m (i + 1) n

pub numbers_count : (y : Layout) (base : ℕ) (r : ℕ → ℕ) (l : LocalRegisters) (m : Memory) (i n : ℕ)
    → length (numbers_placed y base r l m i n) ≡ n
unfolding numbers_placed
numbers_count y base r l m i zero = refl
numbers_count y base r l m i (suc n) = let e = numbers_count y base r l m (i + 1) n in omega arith

placed_small : (y : Layout) (base : ℕ) (r : ℕ → ℕ) (l : LocalRegisters) (m : Memory) (i : ℕ)
    (p : Place)
    → ((i : ℕ) → r i < 2 ^ 64) → ((q : Reg) → local_in l q < 2 ^ 64) → IsBytes m
    → number_placed y base r l m i p < 2 ^ 64
placed_small y base r l m i (InRegister q) few small h = small q
placed_small y base r l m i InFrame few small h =
    let z = number_small m 8 (base + local_at y i) h in omega arith
placed_small y base r l m i Arriving few small h = few i

pub numbers_small : (y : Layout) (base : ℕ) (r : ℕ → ℕ) (l : LocalRegisters) (m : Memory) (i n : ℕ)
    → ((i : ℕ) → r i < 2 ^ 64) → ((q : Reg) → local_in l q < 2 ^ 64) → IsBytes m
    → AreSmall (numbers_placed y base r l m i n)
unfolding numbers_placed
numbers_small y base r l m i zero few small h = tt
numbers_small y base r l m i (suc n) few small h = (
  placed_small y base r l m i (place_of y i) few small h,
  numbers_small y base r l m (i + 1) n few small h,
)

the_same : (a b : ℕ) → Some a ≡ Some b → a ≡ b
the_same a b e = cc

number_listed : (y : Layout) (base : ℕ) (r : ℕ → ℕ) (l : LocalRegisters) (m : Memory) (i n j v : ℕ)
    → slice_get (numbers_placed y base r l m i n) j ≡ Some v
    → number_placed y base r l m (i + j) (place_of y (i + j)) ≡ v
unfolding numbers_placed
number_listed y base r l m i zero j v e = cc
number_listed y base r l m i (suc n) zero v e = let z : i + 0 ≡ i = omega arith in
    ap (λ k. number_placed y base r l m k (place_of y k)) z ∙ the_same _ v e
number_listed y base r l m i (suc n) (suc j) v e = let z : i + suc j ≡ i + 1 + j = omega arith in
    ap (λ k. number_placed y base r l m k (place_of y k)) z
    ∙ number_listed y base r l m (i + 1) n j v e

-- an element of two lists, one after the other
in_either : (xs ys : List ℕ) (i v : ℕ) → slice_get (xs ++ ys) i ≡ Some v
    → ((i < length xs) × (slice_get xs i ≡ Some v))
    ⊎ ((length xs ≤ i) × (slice_get ys (i - length xs) ≡ Some v))
in_either [] ys i v e = inr (
  omega arith,
  let z : i - 0 ≡ i = omega arith in ap (slice_get ys) z
      ∙ e,
)
in_either (x ∷ xs) ys zero v e = inl (omega arith, e)
in_either (x ∷ xs) ys (suc i) v e = elim (in_either xs ys i v e) [
  | inl w ↦ (let lt = w.0 in inl (omega arith, w.1))
  | inr w ↦ (let le = w.0 in let z : suc i - length (x ∷ xs) ≡ i - length xs = omega arith in
      inr (omega arith, ap (slice_get ys) z ∙ w.1))
]

-- ---- where they stand

module _ (setting : Setting) (f : ℕ) (b : LinearBody) where
  open setting use {program, plan as p}

  abbrev y : Layout
  y = p.layout (FunctionBody f)

  -- arguments, and after them what the other locals have
  pub arguments_then_places : body_of program (FunctionBody f) ≡ Some b
      → (base end : ℕ) (c : Cpu) (m : Memory) (arguments : List ℕ) (n : ℕ)
      → base + y.locals + 8 * (length arguments + n) ≤ end
      → ((i v : ℕ) → slice_get arguments i ≡ Some v
      → number_placed y base (arrived_in c) (local_registers c.registers) m i (place_of y i) ≡ v)
      → ((a v : ℕ) → base + y.locals ≤ a → a + 8 ≤ end → number_at m.byte 8 a ≡ v → word m a ≡ Ok v)
      → HoldsPlaces m (now_of (p.leaf (FunctionBody f)) c) (p.register (FunctionBody f)) 0
      (base + y.locals) end
      (arguments ++ numbers_placed y base (arrived_in c) (local_registers c.registers) m
      (length arguments) n)
  arguments_then_places there base end c m arguments n le is readable =
      let more = numbers_placed y base (arrived_in c) (local_registers c.registers) m
      (length arguments) n in
      let count = numbers_count y base (arrived_in c) (local_registers c.registers) m
      (length arguments) n in
      let both = length-append arguments more in
      places_are m (now_of (p.leaf (FunctionBody f)) c) (p.register (FunctionBody f))
      (base + y.locals) end (arguments ++ more) (omega arith)
      (λ i v e.
      let lt = slice_get_within (arguments ++ more) i v e in
      let at : base + (y.locals + 8 * i) ≡ base + y.locals + 8 * i = omega arith in
      place_of_local setting (FunctionBody f) b there c m base i v (arrived_in c) (λ lt. refl) tt
      (λ w. subst (λ a. word m a ≡ Ok v) at
      (readable (base + (y.locals + 8 * i)) v (omega arith) (omega arith) w))
      (elim (in_either arguments more i v e) [
        | inl w ↦ is i v w.1
        | inr w ↦ (let past = w.0 in
            let z : length arguments + (i - length arguments) ≡ i = omega arith in
            subst (λ k. number_placed y base (arrived_in c) (local_registers c.registers) m k
            (place_of y k) ≡ v) z
            (number_listed y base (arrived_in c) (local_registers c.registers) m
            (length arguments) n
            (i - length arguments) v w.1))
      ]))
