-- Depths along a list of instructions, part by part.
use Rattle.std.proofs.Common.{◌≡◌, ℕ, zero, suc, ◌+◌, List, [], ◌∷◌, ◌++◌, length, refl, sym, ap, subst, ◌∙◌, arith}
use Rattle.std.specs.Prelude.{get_or, slice_get, Some}
use Rattle.lowering_invariants.specs.Words.{Instruction, with_tested, after, depths, depth_at}
use Rattle.linear_code.specs.declared.instruction.Instruction.TheVariants as instructions
use Rattle.lowering_invariants.proofs.Stacks.StackTargets.{same_it}

-- the depth after a list
abbrev pub past : List Instruction → ℕ → ℕ
past [] d = d
past (i ∷ is) d = past is (after i d)

pub past_append : (a b : List Instruction) (d : ℕ) → past (a ++ b) d ≡ past b (past a d)
past_append [] b d = refl
past_append (i ∷ a) b d = past_append a b (after i d)

-- a last part that leads to the same depth from any other
pub past_to : (a b : List Instruction) (d e : ℕ) → ((x : ℕ) → past b x ≡ e) → past (a ++ b) d ≡ e
past_to a b d e h = past_append a b d ∙ h (past a d)

-- one part after the other
pub past_both : (a b : List Instruction) (d e f : ℕ) → past a d ≡ e → past b e ≡ f
    → past (a ++ b) d ≡ f
past_both a b d e f p q = past_append a b d ∙ ap (past b) p ∙ q

module _ (depth : ℕ → ℕ) where
  -- from this place on the depths are those along these instructions
  abbrev pub Scans : (at d : ℕ) → List Instruction → Type 0
  Scans at d [] = depth at ≡ d
  Scans at d (i ∷ is) = (depth at ≡ d) × Scans (at + 1) (after i d) is

  pub scan_start : (at d : ℕ) (is : List Instruction) → Scans at d is → depth at ≡ d
  scan_start at d [] h = h
  scan_start at d (i ∷ is) h = h.0

  pub scan_moved : (p q d e : ℕ) (is : List Instruction) → p ≡ q → d ≡ e → Scans p d is
      → Scans q e is
  scan_moved p q d e is a b h = subst (λ e. Scans q e is) b (subst (λ p. Scans p d is) a h)

  pub scan_front : (at d : ℕ) (a b : List Instruction) → Scans at d (a ++ b) → Scans at d a
  scan_front at d [] b h = scan_start at d b h
  scan_front at d (i ∷ a) b h = (h.0, scan_front (at + 1) (after i d) a b h.1)

  pub scan_back : (at to d e : ℕ) (a b : List Instruction) → at + length a ≡ to → past a d ≡ e
      → Scans at d (a ++ b) → Scans to e b
  scan_back at to d e [] b p r h = scan_moved at to d e b (omega arith) r h
  scan_back at to d e (i ∷ a) b p r h = scan_back (at + 1) to (after i d) e a b (omega arith) r h.1

  pub scan_end : (at to d e : ℕ) (is : List Instruction) → at + length is ≡ to → past is d ≡ e
      → Scans at d is → depth to ≡ e
  scan_end at to d e [] p r h = let s : at ≡ to = omega arith in ap depth (sym s) ∙ h ∙ r
  scan_end at to d e (i ∷ is) p r h = scan_end (at + 1) to (after i d) e is (omega arith) r h.1

  -- what a jump leads to has the depth that it leaves, and a landing holds nothing
  abbrev pub Leads : ℕ → Instruction → Type 0
  Leads d (instructions.Jump label) = depth label ≡ d
  Leads d (instructions.JumpIfZero slot label) = depth label ≡ with_tested slot d
  Leads d (instructions.LocalUnwind label) = depth label ≡ d
  Leads d (instructions.Landing to) = d ≡ 0
  Leads d other = Unit {0}

  abbrev pub AllLead : ℕ → List Instruction → Type 0
  AllLead d [] = Unit {0}
  AllLead d (i ∷ is) = Leads d i × AllLead (after i d) is

  pub lead_both : (a b : List Instruction) (d e : ℕ) → past a d ≡ e → AllLead d a → AllLead e b
      → AllLead d (a ++ b)
  lead_both [] b d e p h k = subst (λ e. AllLead e b) (sym p) k
  lead_both (i ∷ a) b d e p h k = (h.0, lead_both a b (after i d) e p h.1 k)

  pub lead_moved : (d e : ℕ) (is : List Instruction) → d ≡ e → AllLead d is → AllLead e is
  lead_moved d e is p h = subst (λ e. AllLead e is) p h

-- ---- a whole list

scans_all : (is : List Instruction) (d base : ℕ) (depth : ℕ → ℕ)
    → ((k : ℕ) → depth (base + k) ≡ get_or (depths is d) k 0) → Scans depth base d is
scans_all [] d base depth h = let e : base + 0 ≡ base = omega arith in ap depth (sym e) ∙ h 0
scans_all (i ∷ is) d base depth h =
    let e : base + 0 ≡ base = omega arith in (
      ap depth (sym e) ∙ h 0,
      scans_all is (after i d) (base + 1) depth
          (λ k. let s : base + 1 + k ≡ base + suc k = omega arith in ap depth s ∙ h (suc k)),
    )

pub scanned : (is : List Instruction) → Scans (depth_at is) 0 0 is
scanned is = scans_all is 0 0 (depth_at is) (λ k. let e : 0 + k ≡ k = omega arith in
    ap (depth_at is) e)

-- the depth at an instruction, and at the next
pub depth_next : (is : List Instruction) (d label : ℕ) (i : Instruction)
    → slice_get is label ≡ Some i → get_or (depths is d) (suc label) 0
    ≡ after i (get_or (depths is d) label 0)
depth_next [] d label i e = absurd (cc)
depth_next (j ∷ []) d zero i e = ap (λ k. after k d) (same_it j i e)
depth_next (j ∷ k ∷ is) d zero i e = ap (λ k. after k d) (same_it j i e)
depth_next (j ∷ is) d (suc label) i e = depth_next is (after j d) label i e

pub leads_at : (depth : ℕ → ℕ) (is : List Instruction) (d label : ℕ) (i : Instruction)
    → slice_get is label ≡ Some i → AllLead depth d is
    → Leads depth (get_or (depths is d) label 0) i
leads_at depth [] d label i e h = absurd (cc)
leads_at depth (j ∷ is) d zero i e h = subst (Leads depth d) (same_it j i e) h.0
leads_at depth (j ∷ is) d (suc label) i e h = leads_at depth is (after j d) label i e h.1
