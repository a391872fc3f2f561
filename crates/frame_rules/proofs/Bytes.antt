-- Instructions that are in memory by their bytes.
use Rattle.std.proofs.Common.{◌≡◌, ℕ, zero, suc, ◌+◌, ◌-◌, ◌*◌, ◌%◌, ◌^◌, ◌<◌, ◌≤◌, Bool, true, false, cond, ◌&&◌, eqb, leb, ltb, List, [], ◌∷◌, ◌++◌, length, Option, Some, None, refl, sym, ap, subst, ◌∙◌, arith, inl, inr, length-append}
use Rattle.std.specs.List.{flat_map}
use Rattle.std.proofs.lemmas.Bool.{cases_lt, and_parts, and_from, or_right, lt-ltb, le-leb}
use Rattle.frame_rules.specs.Words.{W32, W64, Memory, next, executable, Reg, Base, Index, MemRef, Indirect, Instr, number, instr, leading, State, chosen, is_encodable, is_signed, memory_bytes, at_register, sib, mode, displacement, has_rex, modrm_bits, modrm, UnwindOperation, FetchedInstr, is_plain, item_of, fetched_at, depth, bytes, items, Saved, FramePlan, IsPlan, saves_then, spelled_by, all_encodable, operations_of, instructions_of, turned, steps_of, prologue, loads_then, opening_then, opening_by, pops_then, epilogue, with_epilogues, frame_size, IsEntry, HasItems, ops}
use Rattle.x64_instr.specs.declared.operand.Base.TheVariants as bases
use Rattle.x64_instr.specs.declared.operand.RegisterOrMemory.TheVariants as places
use Rattle.x64_instr.specs.declared.instruction.Instr.TheVariants as instrs
use Rattle.x64_encode.proofs.Written.{again}
use Rattle.x64_encode.proofs.Lengths.{longest}
use Rattle.frame_rules.specs.Bytes.{spell, IsExecutableAt, code, SpellsAll, CodeHasItems, prologue_code, rest_code, all_code, spelled_parts, planned, all_parts, PlansAreEncodable, PlannedFramesAreRight}
use Rattle.frame_rules.proofs.Planning.{AllEmitted, all_turned, emitted_plan, step_encodable, small_signed, codes_plan}
use Rattle.frame_rules.proofs.Sizes.{frame_has_its_size}
use Rattle.frame_rules.proofs.Emitting.{plans_are_right}
use Rattle.frame_rules.proofs.EveryFrame.{frames_are_right}

-- ---- no spelling is empty

pub never_empty : (i : Instr) → is_encodable i ≡ true → 0 < length (chosen i)
unfolding instr
never_empty i h = go (chosen i) (again i [] h)
  where
    go : (bytes : List ℕ) → instr (bytes ++ []) ≡ Some (i, []) → 0 < length bytes
    go [] e = absurd cc
    go (b ∷ bytes) e = omega arith

pub spells_all : SpellsAll
spells_all = record { instr = λ i. refl; sized = λ i h. never_empty i h; plain = refl }

-- ---- what an end of an epilogue asks of its bytes is said by the spelling alone

-- a place's first byte
pub record Starts (xs : List ℕ) : Type 0 where
  pub head : ℕ
  pub tail : List ℕ
  pub is : xs ≡ head ∷ tail

register_starts : (r : ℕ) (b : Reg) (i : Option Index) (d : ℕ) → Starts (at_register r b i d)
register_starts r b (Some i) d = record { head = _; tail = _; is = refl }
register_starts r b None d = go (eqb (number b % 8) 4)
  where
    go : (t : Bool) → Starts (cond t ((64 * mode d + 8 * r + 4) ∷ sib None 4 ∷ displacement d)
        ((64 * mode d + 8 * r + number b % 8) ∷ displacement d))
    go true = record { head = _; tail = _; is = refl }
    go false = record { head = _; tail = _; is = refl }

place_starts : (r : ℕ) (b : Base) (i : Option Index) (d : ℕ) → Starts (memory_bytes r b i d)
place_starts r bases.Nothing i d = record { head = _; tail = _; is = refl }
place_starts r bases.Rip i d = record { head = _; tail = _; is = refl }
place_starts r (bases.Register b) i d = register_starts r b i d

jump_plain : (m : MemRef) (more : List ℕ) (n : ℕ)
    → is_plain (chosen (instrs.Jump (Indirect (places.Memory m))) ++ more) n
    (instrs.Jump (Indirect (places.Memory m)))
    ≡ is_plain (chosen (instrs.Jump (Indirect (places.Memory m)))) n
    (instrs.Jump (Indirect (places.Memory m)))
unfolding modrm
jump_plain m more n =
    let bits = modrm_bits W32 4 (places.Memory m) in
    let s = place_starts 4 m.base m.index m.displacement in
    go (has_rex W32 bits) bits (memory_bytes 4 m.base m.index m.displacement) s
  where
    by : (t : Bool) (bits h : ℕ) (tl : List ℕ)
        → is_plain ((cond t ((0x40 + bits) ∷ []) [] ++ 0xFF ∷ [] ++ (h ∷ tl)) ++ more) n
        (instrs.Jump (Indirect (places.Memory m)))
        ≡ is_plain (cond t ((0x40 + bits) ∷ []) [] ++ 0xFF ∷ [] ++ (h ∷ tl)) n
        (instrs.Jump (Indirect (places.Memory m)))
    by true bits h tl = refl
    by false bits h tl = refl

    go : (t : Bool) (bits : ℕ) (xs : List ℕ) → Starts xs
        → is_plain ((cond t ((0x40 + bits) ∷ []) [] ++ 0xFF ∷ [] ++ xs) ++ more) n
        (instrs.Jump (Indirect (places.Memory m)))
        ≡ is_plain (cond t ((0x40 + bits) ∷ []) [] ++ 0xFF ∷ [] ++ xs) n
        (instrs.Jump (Indirect (places.Memory m)))
    go t bits xs s = subst (λ (ys : List ℕ). is_plain
        ((cond t ((0x40 + bits) ∷ []) [] ++ 0xFF ∷ [] ++ ys) ++ more) n
        (instrs.Jump (Indirect (places.Memory m)))
        ≡ is_plain (cond t ((0x40 + bits) ∷ []) [] ++ 0xFF ∷ [] ++ ys) n
        (instrs.Jump (Indirect (places.Memory m)))) (sym s.is) (by t bits s.head s.tail)

plain_again : (i : Instr) (more : List ℕ) (n : ℕ)
    → is_plain (chosen i ++ more) n i ≡ is_plain (chosen i) n i
plain_again (instrs.Jump (Indirect (places.Memory m))) more n = jump_plain m more n
plain_again i more n = refl

-- ---- one instruction

fetches : (m : Memory) (bytes : List ℕ) (n at : ℕ) → length bytes ≤ n → IsExecutableAt m at bytes
    → at + length bytes < 2 ^ 64 → (more : List ℕ) × (executable m n at ≡ bytes ++ more)
unfolding executable
fetches m [] n at le h lt = (executable m n at, refl)
fetches m (b ∷ bytes) zero at le h lt = absurd (omega arith)
fetches m (b ∷ bytes) (suc n) at le h lt =
    let e : next at ≡ at + 1 = omega arith in
    let rest = fetches m bytes n (at + 1) (omega arith) h.2 (omega arith) in (
      rest.0,
      ap (λ (c : Bool). cond c (m.byte at ∷ executable m n (next at)) []) h.1
          ∙ ap (λ (x : ℕ). x ∷ executable m n (next at)) h.0
          ∙ ap (λ (a : ℕ). b ∷ executable m n a) e
          ∙ ap (λ (t : List ℕ). b ∷ t) rest.1,
    )

leading-again : (i : Instr) (more : List ℕ) → is_encodable i ≡ true
    → leading (chosen i ++ more) ≡ Some (i, length (chosen i))
leading-again i more h =
    let n : length (chosen i ++ more) - length more
    ≡ length (chosen i) = omega (arith, length-append (chosen i) more) in
    rw (again i more h, n) refl

item_is_at : (m : Memory) (at : ℕ) (i : Instr) → is_encodable i ≡ true
    → at + length (chosen i) < 2 ^ 64 → IsExecutableAt m at (chosen i)
    → fetched_at m at ≡ Some (spell i)
unfolding fetched_at
item_is_at m at i h lt s =
    let f = fetches m (chosen i) 15 at (longest i) s lt in
    ap (λ (bytes : List ℕ). item_of bytes (leading bytes)) f.1
    ∙ ap (item_of (chosen i ++ f.0)) (leading-again i f.0 h)
    ∙ ap (λ b. let x : FetchedInstr = record { instr = i; size = length (chosen i); plain = b } in
    Some x) (plain_again i f.0 (length (chosen i)))

-- ---- several

executable_split : (m : Memory) (at : ℕ) (a b : List ℕ) → IsExecutableAt m at (a ++ b)
    → IsExecutableAt m at a × IsExecutableAt m (at + length a) b
executable_split m at [] b h = (
  tt,
  let e : at ≡ at + 0 = omega arith in
      subst (λ x. IsExecutableAt m x b) e h,
)
executable_split m at (x ∷ a) b h =
    let r = executable_split m (at + 1) a b h.2 in
    let e : at + 1 + length a ≡ at + length (x ∷ a) = omega arith in
    ((h.0, h.1, r.0), subst (λ y. IsExecutableAt m y b) e r.1)

pub items_are_at : CodeHasItems
items_are_at m at [] h lt s = let z : at ≡ at + 0 = omega arith in z
items_are_at m at (i ∷ is) h lt s =
    let p = and_parts (is_encodable i) (all_encodable is) h in
    let r = executable_split m at (chosen i) (code is) s in
    let n = length-append (chosen i) (code is) in
    let z : at + length (chosen i) + length (code is) ≡ at + length (code (i ∷ is)) = omega arith
    in (
      item_is_at m at i p.0 (omega arith) r.0,
      never_empty i p.0,
      subst (HasItems m (at + length (chosen i)) (spelled_by spell is)) z
          (items_are_at m (at + length (chosen i)) is p.1 (omega arith) r.1),
    )

-- ---- plans

encodable-append : (a b : List Instr) → all_encodable a ≡ true → all_encodable b ≡ true
    → all_encodable (a ++ b) ≡ true
encodable-append [] b p q = q
encodable-append (i ∷ a) b p q = let r = and_parts (is_encodable i) (all_encodable a) p in
    and_from (is_encodable i) (all_encodable (a ++ b)) r.0 (encodable-append a b r.1 q)

prologue_encodable : (p : FramePlan) (xs : List UnwindOperation) → IsPlan p → AllEmitted p xs
    → all_encodable (flat_map (instructions_of p) xs) ≡ true
prologue_encodable p [] h e = refl
prologue_encodable p (x ∷ xs) h e = encodable-append (instructions_of p x)
    (flat_map (instructions_of p) xs) (step_encodable p x h e.0) (prologue_encodable p xs h e.1)

abbrev Bounded : List Saved → Type 0
Bounded [] = Unit {0}
Bounded (s ∷ ss) = (s.offset < 2 ^ 31) × Bounded ss

bounded : (p : FramePlan) (ss : List Saved) (xs : List UnwindOperation)
    → AllEmitted p (saves_then ss xs) → Bounded ss
bounded p [] xs e = tt
bounded p (s ∷ ss) xs e = (e.0.1, bounded p ss xs e.1)

loads_encodable : (ss : List Saved) (is : List Instr) → Bounded ss → all_encodable is ≡ true
    → all_encodable (loads_then ss is) ≡ true
loads_encodable [] is b h = h
loads_encodable (s ∷ ss) is b h = and_from (is_signed W32 W64 s.offset)
    (all_encodable (loads_then ss is)) (small_signed s.offset b.0) (loads_encodable ss is b.1 h)

pops_encodable : (rs : List ℕ) → all_encodable (pops_then rs (instrs.Return ∷ [])) ≡ true
pops_encodable [] = refl
pops_encodable (r ∷ rs) = pops_encodable rs

-- a difference of small numbers is signed
difference_signed : (a b : ℕ) → a < 2 ^ 31 → b < 2 ^ 16
    → is_signed W32 W64 ((a + (2 ^ 64 - b)) % 2 ^ 64) ≡ true
difference_signed a b x y = elim (cases_lt a b) [
  | inl lt ↦
      let v = (a + (2 ^ 64 - b)) % 2 ^ 64 in
      or_right (ltb v (2 ^ 31)) (leb (2 ^ 64 - 2 ^ 31) v && ltb v (2 ^ 64))
      (and_from (leb (2 ^ 64 - 2 ^ 31) v) (ltb v (2 ^ 64))
      (le-leb (2 ^ 64 - 2 ^ 31) v (omega arith)) (lt-ltb v (2 ^ 64) (omega arith)))
  | inr le ↦ small_signed ((a + (2 ^ 64 - b)) % 2 ^ 64) (omega arith)
]

opening_encodable : (p : FramePlan) (b : Bool) → IsPlan p → is_encodable (opening_by p b) ≡ true
opening_encodable p true h = small_signed p.size h.size
opening_encodable p false h = difference_signed p.size p.distance h.size h.distance

opened_encodable : (p : FramePlan) (b : Bool) (is : List Instr) → IsPlan p → all_encodable is ≡ true
    → all_encodable (opening_then p b is) ≡ true
opened_encodable p true is h e = e
opened_encodable p false is h e = and_from (is_encodable (opening_by p (eqb p.frame 0)))
    (all_encodable is) (opening_encodable p (eqb p.frame 0) h) e

pub plans_are_encodable : PlansAreEncodable
plans_are_encodable p h =
    let e = emitted_plan p h in (
      prologue_encodable p (turned [] (operations_of p)) h (all_turned p [] (operations_of p) tt e),
      loads_encodable p.saves (opening_then p (eqb p.size 0)
          (pops_then p.pushes (instrs.Return ∷ []))) (bounded p p.saves _ e)
          (opened_encodable p (eqb p.size 0) (pops_then p.pushes (instrs.Return ∷ [])) h
          (pops_encodable p.pushes)),
    )

rest_encodable : (p : FramePlan) → IsPlan p → (parts : List (List Instr)) (last : List Instr)
    → all_parts parts ≡ true → all_encodable last ≡ true
    → all_encodable (rest_code p parts last) ≡ true
rest_encodable p h [] last a b = b
rest_encodable p h (is ∷ parts) last a b =
    let q = and_parts (all_encodable is) (all_parts parts) a in
    encodable-append is (epilogue p ++ rest_code p parts last) q.0
    (encodable-append (epilogue p) (rest_code p parts last) (plans_are_encodable p h).1
    (rest_encodable p h parts last q.1 b))

-- ---- planned functions

spelled-append : (a b : List Instr) → spelled_by spell (a ++ b)
    ≡ spelled_by spell a ++ spelled_by spell b
spelled-append [] b = refl
spelled-append (i ∷ a) b = ap (λ (xs : List FetchedInstr). spell i ∷ xs) (spelled-append a b)

spelled_steps : (p : FramePlan) (at : ℕ) (xs : List UnwindOperation)
    → spelled_by spell (flat_map (instructions_of p) xs) ≡ items (steps_of spell p at xs)
spelled_steps p at [] = refl
spelled_steps p at (x ∷ xs) = spelled-append (instructions_of p x) (flat_map (instructions_of p) xs)
    ∙ ap (λ (ys : List FetchedInstr). spelled_by spell (instructions_of p x) ++ ys)
    (spelled_steps p (at + bytes (spelled_by spell (instructions_of p x))) xs)

spelled_rest : (p : FramePlan) (parts : List (List Instr)) (last : List Instr)
    → spelled_by spell (rest_code p parts last)
    ≡ with_epilogues spell p (spelled_parts parts) (spelled_by spell last)
spelled_rest p [] last = refl
spelled_rest p (is ∷ parts) last =
    spelled-append is (epilogue p ++ rest_code p parts last)
    ∙ ap (λ (ys : List FetchedInstr). spelled_by spell is ++ ys)
    (spelled-append (epilogue p) (rest_code p parts last))
    ∙ ap (λ (ys : List FetchedInstr). spelled_by spell is ++ (spelled_by spell (epilogue p) ++ ys))
    (spelled_rest p parts last)

-- a smaller room
less_room : (m n : ℕ) (e : State) → m ≤ n → IsEntry n e → IsEntry m e
less_room m n e le h = let low = h.low in record {
  length = h.length;
  fits = h.fits;
  high = h.high;
  low = omega arith;
  writable = λ a p q. h.writable a (omega arith) q;
  readable = h.readable;
}

pub planned_frames : PlannedFramesAreRight
planned_frames p parts last e s begin d plan ok ok' inner inner' entry is_there lt rip st =
    let f = planned p parts last in
    let right = plans_are_right spell p (spelled_parts parts) (spelled_by spell last) spells_all
    plan inner inner' in
    let enc = encodable-append (prologue_code p) (rest_code p parts last)
    (plans_are_encodable p plan).0 (rest_encodable p plan parts last ok ok') in
    let has = items_are_at s.memory begin (all_code p parts last) enc lt is_there in
    let same = spelled-append (prologue_code p) (rest_code p parts last)
    ∙ ap (λ (xs : List FetchedInstr). xs ++ spelled_by spell (rest_code p parts last))
    (spelled_steps p 0 (turned [] (operations_of p)))
    ∙ ap (λ (xs : List FetchedInstr). items (prologue spell p) ++ xs) (spelled_rest p parts last) in
    let to = begin + length (code (all_code p parts last)) in
    let size = frame_has_its_size p in
    let codes = codes_plan spell p in
    let deep : depth (ops f) ≡ depth (operations_of p) = ap depth codes in
    frames_are_right f e s begin d to right (less_room (depth (ops f)) (frame_size p) e
    (omega arith) entry) (subst (λ (xs : List FetchedInstr). HasItems s.memory begin xs to) same
    has) lt rip st
