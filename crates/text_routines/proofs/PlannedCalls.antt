-- What the prologue of a frame calls: `__chkstk` alone, after the pushes.
use Rattle.std.proofs.Common.{◌≡◌, ℕ, ◌+◌, ◌≤◌, Bool, true, false, List, [], ◌∷◌, ◌++◌, length, refl, sym, subst, ◌∙◌, arith}
use Rattle.std.specs.List.{flat_map, AllByRecursion}
use Rattle.std.proofs.lemmas.Bool.{false≢true}
use Rattle.seh_num.specs.declared.width.Width.TheVariants.{W64}
use Rattle.flat_memory.specs.Memory.{Memory}
use Rattle.x64_instr.specs.declared.instruction.Instr.{Instr}
use Rattle.x64_instr.specs.declared.instruction.Instr.TheVariants as instrs
use Rattle.x64_instr.specs.declared.operand.Operand.TheVariants as operands
use Rattle.x64_instr.specs.declared.operand.RegisterOrMemory.TheVariants as places
use Rattle.x64_instr.specs.Registers.{register}
use Rattle.x64_encode.specs.Chosen.{opcode_register}
use Rattle.eh_tables.specs.declared.code.UnwindOperation.{UnwindOperation}
use Rattle.frame_rules.specs.Codes.{pushed}
use Rattle.frame_rules.specs.Prologue.{bytes, is_call}
use Rattle.frame_rules.specs.Plan.{FramePlan, Saved, instructions_of, saves_then, spelled_by, stack_place, turned}
use Rattle.frame_rules.specs.Bytes.{spell}
use Rattle.frame_layout.specs.Plans.{pushes_of, saves_of}
use Rattle.frame_layout.proofs.Counts.{all_both, by_pushes}
use Rattle.frame_layout.proofs.Steps.{pushing, saving, setting}
use Rattle.unwind_check.specs.RightFunctions.{CallsProbe}

-- ---- the bytes of pushes

-- how many the instructions of codes take
abbrev pub codes_bytes : FramePlan → List UnwindOperation → ℕ
codes_bytes q [] = 0
codes_bytes q (x ∷ xs) = bytes (spelled_by spell (instructions_of q x)) + codes_bytes q xs

pub pushing_bytes : (q : FramePlan) (k : ℕ) (framed : Bool) → k ≤ 3
    → codes_bytes q (pushing k framed) ≡ length (pushes_of k framed)
unfolding opcode_register
pushing_bytes q = by_pushes
    (λ k framed. codes_bytes q (pushing k framed) ≡ length (pushes_of k framed))
    refl refl refl refl refl refl refl refl

-- ---- codes that call nothing

module _ (m : Memory) (routine : List ℕ) where
  -- each call of instructions at an address is of the routine
  abbrev pub Calls : ℕ → List Instr → Type 0
  Calls at is = CallsProbe m routine at (spelled_by spell is)

  module _ (q : FramePlan) where
    abbrev Passes : UnwindOperation → Type 0
    Passes x = (at : ℕ) (rest : List Instr)
        → Calls (at + bytes (spelled_by spell (instructions_of q x))) rest
        → Calls at (instructions_of q x ++ rest)

    abbrev pub Pass : List UnwindOperation → Type 0
    Pass = AllByRecursion Passes

    one_passes : (i : Instr) → is_call i ≡ false → (at : ℕ) (rest : List Instr)
        → Calls (at + bytes (spelled_by spell (i ∷ []))) rest → Calls at (i ∷ rest)
    one_passes i plain at rest h =
        let e : at + bytes (spelled_by spell (i ∷ [])) ≡ at + (spell i).size = omega arith in
        ((λ c. absurd (false≢true (sym plain ∙ c))), subst (λ a. Calls a rest) e h)

    turned_pass : (done xs : List UnwindOperation) → Pass done → Pass xs → Pass (turned done xs)
    turned_pass done [] d h = d
    turned_pass done (x ∷ xs) d h = turned_pass (x ∷ done) xs (h.0, d) h.1

    pushed_pass : (rs : List ℕ) → Pass (pushed rs)
    pushed_pass [] = tt
    pushed_pass (r ∷ rs) = (one_passes (instrs.Push (register r)) refl, pushed_pass rs)

    saves_pass : (ss : List Saved) → Pass (saves_then ss [])
    saves_pass [] = tt
    saves_pass (s ∷ ss) =
        let i = instrs.Move W64 (places.Memory (stack_place s.offset))
        (operands.Register (register s.register)) in
        (one_passes i refl, saves_pass ss)

    setting_pass : (framed : Bool) → Pass (setting framed)
    setting_pass true =
        (one_passes (instrs.LoadAddress W64 (register q.frame) (stack_place q.distance)) refl, tt)
    setting_pass false = tt

    pub pushing_pass : (k : ℕ) (framed : Bool) → Pass (pushing k framed)
    pushing_pass k framed = turned_pass [] (pushed (pushes_of k framed)) tt
        (pushed_pass (pushes_of k framed))

    -- those after the allocation
    pub last_pass : (framed : Bool) (at n : ℕ) → Pass (setting framed ++ saving at n)
    last_pass framed at n = all_both Passes (setting framed) (saving at n) (setting_pass framed)
        (turned_pass [] (saves_then (saves_of at n) []) tt (saves_pass (saves_of at n)))

    -- alone, and before others
    pub pass_alone : (at : ℕ) (xs : List UnwindOperation) → Pass xs
        → Calls at (flat_map (instructions_of q) xs)
    pass_alone at [] h = tt
    pass_alone at (x ∷ xs) h =
        h.0 at (flat_map (instructions_of q) xs)
        (pass_alone (at + bytes (spelled_by spell (instructions_of q x))) xs h.1)

    pub pass_before : (at : ℕ) (xs ys : List UnwindOperation) → Pass xs
        → Calls (at + codes_bytes q xs) (flat_map (instructions_of q) ys)
        → Calls at (flat_map (instructions_of q) (xs ++ ys))
    pass_before at [] ys h last =
        let e : at + 0 ≡ at = omega arith in
        subst (λ a. Calls a (flat_map (instructions_of q) ys)) e last
    pass_before at (x ∷ xs) ys h last =
        let own = bytes (spelled_by spell (instructions_of q x)) in
        let e : at + (own + codes_bytes q xs) ≡ at + own + codes_bytes q xs = omega arith in
        h.0 at (flat_map (instructions_of q) (xs ++ ys)) (pass_before (at + own) xs ys h.1
        (subst (λ a. Calls a (flat_map (instructions_of q) ys)) e last))
