-- What prologues and epilogues do, step by step.
use Rattle.std.proofs.Common.{◌≡◌, ℕ, zero, suc, ◌+◌, ◌*◌, ◌^◌, ◌<◌, ◌≤◌, ◌==◌, Bool, true, false, not, leb, List, [], ◌∷◌, ◌++◌, length, get_or, drop, drop-cons, refl, sym, ap, subst, ◌∙◌, arith, append_assoc, length-append}
use Rattle.std.proofs.lemmas.Bool.{ne_eqb, and_parts}
use Rattle.std.proofs.lemmas.Grind.{flat_map-append}
use Rattle.std.specs.List.{flat_map, AllByRecursion}
use Rattle.x64_encode.specs.Chosen.{is_encodable, IsEncodable}
use Rattle.frame_rules.specs.Bytes.{prologue_code}
use Rattle.x64_instr.specs.declared.instruction.Instr.{Instr}
use Rattle.x64_instr.specs.declared.instruction.Instr.TheVariants as instrs
use Rattle.x64_instr.specs.Registers.{register}
use Rattle.eh_tables.specs.declared.code.UnwindOperation.{UnwindOperation}
use Rattle.eh_tables.specs.declared.code.UnwindOperation.TheVariants.{Push, Allocate, SetFrame, Save}
use Rattle.frame_rules.specs.Codes.{pushed}
use Rattle.frame_rules.specs.Plan.{Saved, turned, saves_then, frame_then, operations_of, loads_then, load_of, pops_then, opening_then, opening_by, epilogue, instructions_of, allocating, all_encodable}
use Rattle.frame_layout.specs.Layout.{IsFrame}
use Rattle.frame_layout.specs.Plans.{pushes_of, saves_of, frame_register_if, plan_of, IsStep}
use Rattle.frame_layout.specs.declared.frame.FrameLayout.{FrameLayout}
use Rattle.frame_layout.proofs.Counts.{by_pushes, all_both}
use Rattle.frame_layout.proofs.Planned.{base, operations_are}

-- ---- lists turned round

turned_onto : (done xs : List UnwindOperation) → turned done xs ≡ turned [] xs ++ done
turned_onto done [] = refl
turned_onto done (x ∷ xs) =
    turned_onto (x ∷ done) xs
    ∙ sym (append_assoc (turned [] xs) (x ∷ []) done)
    ∙ ap (λ t. t ++ done) (sym (turned_onto (x ∷ []) xs))

turned_saves : (ss : List Saved) (done xs : List UnwindOperation)
    → turned done (saves_then ss xs) ≡ turned (turned done (saves_then ss [])) xs
turned_saves [] done xs = refl
turned_saves (s ∷ ss) done xs = turned_saves ss (Save s.register s.offset ∷ done) xs

-- ---- the steps of a prologue

-- pushes, and saves by mov, from the first to the last
abbrev pub pushing : ℕ → Bool → List UnwindOperation
pushing k framed = turned [] (pushed (pushes_of k framed))

abbrev pub saving : ℕ → ℕ → List UnwindOperation
saving at n = turned [] (saves_then (saves_of at n) [])

abbrev pub setting : Bool → List UnwindOperation
setting framed = frame_then framed []

abbrev pub executed : FrameLayout → List UnwindOperation
executed f =
    pushing f.pushes f.framed
    ++ (Allocate f.size ∷ (setting f.framed ++ saving f.slots f.saves))

-- the count that is next
pub after : (i : ℕ) → i + 1 ≡ suc i
after i = omega arith

-- one save more
pub saving_next : (at n : ℕ)
    → saving at (n + 1) ≡ saving at n ++ (Save (12 + n) (at + 8 * n) ∷ [])
saving_next at n = ap (saving at) (after n)
    ∙ turned_onto (Save (12 + n) (at + 8 * n) ∷ []) (saves_then (saves_of at n) [])

pub operations_executed : (f : FrameLayout) (probe : ℕ) → 0 < f.size
    → turned [] (operations_of (plan_of f probe)) ≡ executed f
operations_executed f probe some =
    ap (turned []) (operations_are f probe some)
    ∙ turned_saves (saves_of f.slots f.saves) [] (base f.pushes f.framed f.size)
    ∙ by f.framed (saving f.slots f.saves)
  where
    by : (b : Bool) (more : List UnwindOperation) → turned more (base f.pushes b f.size)
        ≡ pushing f.pushes b ++ (Allocate f.size ∷ (setting b ++ more))
    by true more = turned_onto (Allocate f.size ∷ SetFrame ∷ more)
        (pushed (pushes_of f.pushes true))
    by false more = turned_onto (Allocate f.size ∷ more) (pushed (pushes_of f.pushes false))

-- ---- what they are

-- at most three registers are pushed but for RBP, and four saved by mov, and there is a fixed
-- allocation
pub record HasRegisters (f : FrameLayout) : Type 0 where
  pub pushes : f.pushes ≤ 3
  pub saves : f.saves ≤ 4
  pub some : 0 < f.size

pub frame_registers : (f : FrameLayout) → IsFrame f → HasRegisters f
frame_registers f h = record { pushes = h.pushes; saves = h.saves; some = h.some }

-- a step of such a frame, however large it is
abbrev pub IsShort : Bool → UnwindOperation → Type 0
IsShort framed (Push r) = r < 8
IsShort framed (Allocate n) = Unit {0}
IsShort framed SetFrame = framed ≡ true
IsShort framed (Save r n) = r < 16
IsShort framed x = ⊥

pushing_short : (k : ℕ) (framed : Bool) → k ≤ 3 → AllByRecursion (IsShort framed) (pushing k framed)
pushing_short = by_pushes (λ k framed. AllByRecursion (IsShort framed) (pushing k framed))
    (omega arith, tt) (omega arith, (omega arith, tt))
    (omega arith, (omega arith, (omega arith, tt)))
    (omega arith, (omega arith, (omega arith, (omega arith, tt))))
    tt (omega arith, tt) (omega arith, (omega arith, tt))
    (omega arith, (omega arith, (omega arith, tt)))

setting_short : (framed : Bool) → AllByRecursion (IsShort framed) (setting framed)
setting_short true = (refl, tt)
setting_short false = tt

saving_short : (framed : Bool) (at n : ℕ) → n ≤ 4
    → AllByRecursion (IsShort framed) (saving at n)
saving_short framed at zero le = tt
saving_short framed at (suc n) le =
    subst (AllByRecursion (IsShort framed))
    (sym (saving_next at n) ∙ ap (saving at) (after n))
    (all_both (IsShort framed) (saving at n) (Save (12 + n) (at + 8 * n) ∷ [])
    (saving_short framed at n (omega arith)) (omega arith, tt))

pub executed_short : (f : FrameLayout) → HasRegisters f
    → AllByRecursion (IsShort f.framed) (executed f)
executed_short f h =
    all_both (IsShort f.framed) (pushing f.pushes f.framed) _
    (pushing_short f.pushes f.framed h.pushes) (
      tt,
      all_both (IsShort f.framed) (setting f.framed) (saving f.slots f.saves)
          (setting_short f.framed) (saving_short f.framed f.slots f.saves h.saves),
    )

pushing_steps : (k : ℕ) (framed : Bool) → k ≤ 3 → AllByRecursion (IsStep framed) (pushing k framed)
pushing_steps = by_pushes (λ k framed. AllByRecursion (IsStep framed) (pushing k framed))
    (omega arith, tt) (omega arith, (omega arith, tt))
    (omega arith, (omega arith, (omega arith, tt)))
    (omega arith, (omega arith, (omega arith, (omega arith, tt))))
    tt (omega arith, tt) (omega arith, (omega arith, tt))
    (omega arith, (omega arith, (omega arith, tt)))

setting_steps : (framed : Bool) → AllByRecursion (IsStep framed) (setting framed)
setting_steps true = (refl, tt)
setting_steps false = tt

saving_steps : (framed : Bool) (at n : ℕ) → n ≤ 4 → at + 8 * n < 2 ^ 31
    → AllByRecursion (IsStep framed) (saving at n)
saving_steps framed at zero le fits = tt
saving_steps framed at (suc n) le fits =
    subst (AllByRecursion (IsStep framed))
    (sym (saving_next at n) ∙ ap (saving at) (after n))
    (all_both (IsStep framed) (saving at n) (Save (12 + n) (at + 8 * n) ∷ [])
    (saving_steps framed at n (omega arith) (omega arith))
    ((omega arith, omega arith), tt))

pub executed_steps : (f : FrameLayout) → IsFrame f → AllByRecursion (IsStep f.framed) (executed f)
executed_steps f h =
    let small = h.small in
    let depth = h.depth in
    let saved = h.saved in
    all_both (IsStep f.framed) (pushing f.pushes f.framed) _
    (pushing_steps f.pushes f.framed h.pushes) (
      omega arith,
      all_both (IsStep f.framed) (setting f.framed) (saving f.slots f.saves)
          (setting_steps f.framed) (saving_steps f.framed f.slots f.saves h.saves (omega arith)),
    )

-- the parts one after another
pub parts_joined : {X : Type 0} (ps ss vs : List X) (a : X)
    → ((ps ++ (a ∷ [])) ++ ss) ++ vs ≡ ps ++ (a ∷ (ss ++ vs))
parts_joined ps ss vs a = ap (λ t. t ++ vs) (append_assoc ps (a ∷ []) ss)
    ∙ append_assoc ps (a ∷ ss) vs

-- ---- how many instructions they are

abbrev counted : FrameLayout → ℕ → List UnwindOperation → ℕ
counted f probe xs = length (flat_map (instructions_of (plan_of f probe)) xs)

counted_both : (f : FrameLayout) (probe : ℕ) (xs ys : List UnwindOperation)
    → counted f probe (xs ++ ys) ≡ counted f probe xs + counted f probe ys
counted_both f probe xs ys = let g = instructions_of (plan_of f probe) in
    ap length (flat_map-append g xs ys) ∙ length-append (flat_map g xs) (flat_map g ys)

pushing_counted : (f : FrameLayout) (probe k : ℕ) (framed : Bool) → k ≤ 3
    → counted f probe (pushing k framed) ≤ 4
pushing_counted f probe = by_pushes (λ k framed. counted f probe (pushing k framed) ≤ 4)
    (omega arith) (omega arith) (omega arith) (omega arith) (omega arith) (omega arith)
    (omega arith) (omega arith)

setting_counted : (f : FrameLayout) (probe : ℕ) (framed : Bool)
    → counted f probe (setting framed) ≤ 1
setting_counted f probe true = omega arith
setting_counted f probe false = omega arith

saving_counted : (f : FrameLayout) (probe at n : ℕ) → counted f probe (saving at n) ≡ n
saving_counted f probe at zero = refl
saving_counted f probe at (suc n) =
    let r = saving_counted f probe at n in
    let e = ap (counted f probe) (sym (ap (saving at) (after n)) ∙ saving_next at n) in
    omega (arith, counted_both f probe (saving at n) (Save (12 + n) (at + 8 * n) ∷ []))

allocating_counted : (probe n : ℕ) (small : Bool) → length (allocating probe n small) ≤ 3
allocating_counted probe n true = omega arith
allocating_counted probe n false = omega arith

-- 12 at most
pub prologue_counted : (f : FrameLayout) (probe : ℕ) → IsFrame f
    → length (prologue_code (plan_of f probe)) ≤ 12
prologue_counted f probe h =
    let a = pushing_counted f probe f.pushes f.framed h.pushes in
    let b = setting_counted f probe f.framed in
    let c = saving_counted f probe f.slots f.saves in
    let d = allocating_counted probe f.size (leb f.size 4096) in
    let four = h.saves in
    let e = ap (counted f probe) (operations_executed f probe h.some) in
    omega (
      arith,
      counted_both f probe (pushing f.pushes f.framed)
          (Allocate f.size ∷ (setting f.framed ++ saving f.slots f.saves)),
      length-append (allocating probe f.size (leb f.size 4096))
          (flat_map (instructions_of (plan_of f probe)) (setting f.framed
          ++ saving f.slots f.saves)),
      counted_both f probe (setting f.framed) (saving f.slots f.saves),
    )

-- one step more of several
pub step_added : {X : Type 0} {A : Type 0} (g : X → List A) (old new : List A) (xs : List X) (i : ℕ)
    (d : X) → i < length xs → new ≡ old ++ g (get_or xs i d)
    → new ++ flat_map g (drop (i + 1) xs) ≡ old ++ flat_map g (drop i xs)
step_added g old new xs i d lt e =
    ap (λ t. t ++ flat_map g (drop (i + 1) xs)) e
    ∙ append_assoc old (g (get_or xs i d)) (flat_map g (drop (i + 1) xs))
    ∙ ap (λ n. old ++ (g (get_or xs i d) ++ flat_map g (drop n xs))) (after i)
    ∙ sym (ap (λ t. old ++ flat_map g t) (drop-cons xs i d lt))

-- all can be spelled
pub all_encodable_are : (is : List Instr) → all_encodable is ≡ true → AllByRecursion IsEncodable is
all_encodable_are [] h = tt
all_encodable_are (i ∷ is) h = let a = and_parts (is_encodable i) (all_encodable is) h in
    (a.0, all_encodable_are is a.1)

-- ---- epilogues

unframed : (b : Bool) → (frame_register_if b == 0) ≡ not b
unframed true = refl
unframed false = refl

pub loads_onto : (ss : List Saved) (is : List Instr) → loads_then ss is ≡ loads_then ss [] ++ is
loads_onto [] is = refl
loads_onto (s ∷ ss) is = ap (λ t. load_of s ∷ t) (loads_onto ss is)

pub pops_onto : (rs : List ℕ) (is : List Instr) → pops_then rs is ≡ pops_then rs [] ++ is
pops_onto [] is = refl
pops_onto (r ∷ rs) is = ap (λ t. instrs.Pop (register r) ∷ t) (pops_onto rs is)

-- the loads, what leaves the fixed allocation, the pops and the return
pub epilogue_is : (f : FrameLayout) (probe : ℕ) → 0 < f.size → epilogue (plan_of f probe)
    ≡ ((loads_then (saves_of f.slots f.saves) []
    ++ (opening_by (plan_of f probe) (not f.framed) ∷ []))
    ++ pops_then (pushes_of f.pushes f.framed) []) ++ (instrs.Return ∷ [])
epilogue_is f probe some =
    let p = plan_of f probe in
    let pops = pops_then p.pushes (instrs.Return ∷ []) in
    let none = ne_eqb f.size 0 (λ z. (let e : f.size ≡ 0 = z in absurd (omega arith))) in
    let opens = opening_by p (not f.framed) in
    let loads = loads_then p.saves [] in
    loads_onto p.saves (opening_then p (p.size == 0) pops)
    ∙ ap (λ z. loads ++ opening_then p z pops) none
    ∙ ap (λ z. loads ++ (opening_by p z ∷ pops)) (unframed f.framed)
    ∙ ap (λ t. loads ++ (opens ∷ t)) (pops_onto p.pushes (instrs.Return ∷ []))
    ∙ sym (append_assoc loads (opens ∷ []) (pops_then p.pushes [] ++ (instrs.Return ∷ [])))
    ∙ sym (append_assoc (loads ++ (opens ∷ [])) (pops_then p.pushes []) (instrs.Return ∷ []))
