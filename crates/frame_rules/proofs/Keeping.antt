-- What has the form of a function that is right passes the rules.
use Rattle.std.proofs.Common.{◌≡◌, ℕ, ◌+◌, ◌^◌, Bool, true, false, not, ◌&&◌, ◌||◌, eqb, ltb, List, [], ◌∷◌, ◌++◌, Option, Some, None, refl, sym, ap, ◌∙◌}
use Rattle.std.proofs.lemmas.Bool.{false≢true, and_from, eqb-false, eq-eqb, lt-ltb}
use Rattle.frame_rules.specs.Words.{W64, Rsp, Instr, UnwindOperation, Allocate, UnwindCode, operations, FetchedInstr, has_frame, sets_frame, are_allowed, is_ordered, bytes, does, allocates, is_step, are_sized, PrologueStep, items, codes_onto, ArePrologueSteps}
use Rattle.x64_instr.specs.declared.operand.RegisterOrMemory.TheVariants as places
use Rattle.x64_instr.specs.declared.operand.Operand.TheVariants as operands
use Rattle.x64_instr.specs.declared.instruction.Operation.TheVariants.{Sub}
use Rattle.x64_instr.specs.declared.instruction.Instr.TheVariants as instrs
use Rattle.frame_rules.specs.Validated.{turned, fits, before, with_step, three, steps, are_steps, has_codes, has_prologue, has_body, keeps_rules}
use Rattle.frame_rules.specs.Rules.{FramedFunction, IsRight}
use Rattle.frame_rules.specs.Laws.{RightPassesRules}

-- ---- the codes in the order of execution

abbrev pub codes_of : List PrologueStep → List UnwindCode → List UnwindCode
codes_of [] cs = cs
codes_of (s ∷ ss) cs = s.code ∷ codes_of ss cs

pub turned_onto : (cs done : List UnwindCode) (ss : List PrologueStep)
    → turned cs (codes_onto done ss) ≡ turned (codes_of ss cs) done
turned_onto cs done [] = refl
turned_onto cs done (s ∷ ss) = turned_onto cs (s.code ∷ done) ss

-- ---- one step

-- what sets the size of an allocation isn't the allocation
pub not_one : (f offset : ℕ) (op : UnwindOperation) (x y z : Instr) → allocates op x y z ≡ true
    → does f offset op x ≡ false
not_one f offset (Allocate n)
    (instrs.Arithmetic Sub W64 (places.Register Rsp) (operands.Immediate v)) y z h =
    absurd (false≢true h)
not_one f offset (Allocate n) x y z h = refl
not_one f offset op x y z h = absurd (false≢true h)

pub fit : (f offset d : ℕ) (c : UnwindCode) (xs : List FetchedInstr)
    → is_step f offset c.operation xs ≡ true → are_sized xs ≡ true → c.offset ≡ d + bytes xs
    → fits f offset d c xs ≡ true
fit f offset d c xs does sized end = and_from (is_step f offset c.operation xs)
    (are_sized xs && eqb c.offset (d + bytes xs)) does
    (and_from (are_sized xs) (eqb c.offset (d + bytes xs)) sized
    (eq-eqb c.offset (d + bytes xs) end))

-- the three instructions of an allocation by the stack probe are none of its one
pub misses_one : (f offset d : ℕ) (c : UnwindCode) (x y z : FetchedInstr)
    → is_step f offset c.operation (x ∷ y ∷ z ∷ []) ≡ true
    → fits f offset d c (x ∷ []) ≡ false
misses_one f offset d c x y z alloc =
    ap (λ b. b && (are_sized (x ∷ []) && eqb c.offset (d + bytes (x ∷ []))))
    (not_one f offset c.operation x.instr y.instr z.instr alloc)

-- ---- the steps are found

still_steps : (s : PrologueStep) (o : Option (List PrologueStep)) → are_steps o ≡ true
    → are_steps (before s o) ≡ true
still_steps s (Some ss) e = refl
still_steps s None e = absurd (false≢true e)

module _ (f offset : ℕ) where
  step_found : (d : ℕ) (c : UnwindCode) (cs : List UnwindCode) (xs ys : List FetchedInstr)
      → is_step f offset c.operation xs ≡ true → are_sized xs ≡ true → c.offset ≡ d + bytes xs
      → are_steps (steps f offset c.offset cs ys) ≡ true
      → are_steps (steps f offset d (c ∷ cs) (xs ++ ys)) ≡ true
  step_found d c cs [] ys is sized end more = absurd (false≢true is)
  step_found d c cs (x ∷ []) ys is sized end more =
      let others = steps f offset c.offset cs in
      ap (λ b. are_steps (with_step c (x ∷ []) (others ys) b
      (three f offset d c others (x ∷ ys)))) (fit f offset d c (x ∷ []) is sized end)
      ∙ still_steps (record { code = c; items = x ∷ [] }) (others ys) more
  step_found d c cs (x ∷ y ∷ []) ys is sized end more = absurd (false≢true is)
  step_found d c cs (x ∷ y ∷ z ∷ []) ys is sized end more =
      let others = steps f offset c.offset cs in
      ap (λ b. are_steps (with_step c (x ∷ []) (others (y ∷ z ∷ ys)) b
      (three f offset d c others (x ∷ y ∷ z ∷ ys)))) (misses_one f offset d c x y z is)
      ∙ ap (λ b. are_steps (with_step c (x ∷ y ∷ z ∷ []) (others ys) b None))
      (fit f offset d c (x ∷ y ∷ z ∷ []) is sized end)
      ∙ still_steps (record { code = c; items = x ∷ y ∷ z ∷ [] }) (others ys) more
  step_found d c cs (x ∷ y ∷ z ∷ w ∷ xs) ys is sized end more = absurd (false≢true is)

  all_found : (d : ℕ) (ss : List PrologueStep) → ArePrologueSteps f offset d ss
      → are_steps (steps f offset d (codes_of ss []) (items ss)) ≡ true
  all_found d [] a = refl
  all_found d (s ∷ ss) a = step_found d s.code (codes_of ss []) s.items (items ss) a.0.does
      a.0.sized a.0.ends
      (ap (λ k. are_steps (steps f offset k (codes_of ss []) (items ss))) a.0.ends
      ∙ all_found (d + bytes s.items) ss a.1)

-- ---- the rules

framed : (f : ℕ) (sets : Bool) → ((f ≡ 0 → ⊥) → sets ≡ true)
    → (not (not (eqb f 0)) || sets) ≡ true
framed f sets h = go (eqb f 0) refl
  where
    go : (b : Bool) → eqb f 0 ≡ b → (not (not b) || sets) ≡ true
    go true e = refl
    go false e = h (eqb-false f 0 e)

right_passes : (f : FramedFunction) → IsRight f → keeps_rules f.info (items f.steps) f.rest ≡ true
right_passes f r =
    let i = f.info in
    let fr = i.frame_register in
    let off = i.frame_offset in
    let xs = items f.steps in
    let in_order : turned [] i.codes ≡ codes_of f.steps [] =
    ap (turned []) r.codes ∙ turned_onto [] [] f.steps in
    let found : are_steps (steps fr off 0 (turned [] i.codes) xs) ≡ true =
    ap (λ (cs : List UnwindCode). are_steps (steps fr off 0 cs xs)) in_order
    ∙ all_found fr off 0 f.steps r.steps in
    and_from (ltb off (2 ^ 16)) (has_codes i && (has_prologue i xs && has_body i f.rest))
    (lt-ltb off (2 ^ 16) r.offset)
    (and_from (has_codes i) (has_prologue i xs && has_body i f.rest)
    (and_from (are_allowed fr (operations i.codes))
    (not (has_frame i) || sets_frame (operations i.codes)) r.allowed
    (framed fr (sets_frame (operations i.codes)) r.frame))
    (and_from (has_prologue i xs) (has_body i f.rest)
    (and_from (is_ordered (operations i.codes))
    (eqb i.prologue_size (bytes xs) && are_steps (steps fr off 0 (turned [] i.codes) xs)) r.ordered
    (and_from (eqb i.prologue_size (bytes xs))
    (are_steps (steps fr off 0 (turned [] i.codes) xs))
    (eq-eqb i.prologue_size (bytes xs) r.prologue_size) found)) r.body))

pub right_passes_rules : RightPassesRules
right_passes_rules i xs ys h =
    ap (λ (zs : List FetchedInstr). keeps_rules i zs ys) (sym h.spelled)
    ∙ right_passes (record { info = i; steps = h.steps; rest = ys }) h.right
