-- The epilogues of frames.
use Rattle.std.proofs.Common.{◌≡◌, ℕ, ◌==◌, Bool, true, false, List, [], ◌∷◌, refl, ap}
use Rattle.x64_instr.specs.declared.instruction.Instr.{Instr}
use Rattle.x64_instr.specs.declared.instruction.Instr.TheVariants as instrs
use Rattle.frame_rules.specs.Plan.{FramePlan, Saved, epilogue, load_of, loads_then, opening_by, opening_then, pops_then}

-- ---- an epilogue calls nothing: it doesn't depend on where `__chkstk` is

abbrev probed : FramePlan → ℕ → FramePlan
probed p k = record p { probe = k }

opening_unprobed : (p : FramePlan) (k : ℕ) (none : Bool) → opening_by (probed p k) none
    ≡ opening_by p none
opening_unprobed p k true = refl
opening_unprobed p k false = refl

ending_unprobed : (p : FramePlan) (k : ℕ) (none : Bool) (is : List Instr)
    → opening_then (probed p k) none is ≡ opening_then p none is
ending_unprobed p k true is = refl
ending_unprobed p k false is = ap (λ (i : Instr). i ∷ is) (opening_unprobed p k (p.frame == 0))

loads_same : (ss : List Saved) (is js : List Instr) → is ≡ js → loads_then ss is ≡ loads_then ss js
loads_same [] is js e = e
loads_same (s ∷ ss) is js e = ap (λ (ks : List Instr). load_of s ∷ ks) (loads_same ss is js e)

pub epilogue_unprobed : (p : FramePlan) (k : ℕ) → epilogue (record p { probe = k }) ≡ epilogue p
epilogue_unprobed p k =
    let is = pops_then p.pushes (instrs.Return ∷ []) in
    loads_same p.saves (opening_then (probed p k) (p.size == 0) is)
    (opening_then p (p.size == 0) is) (ending_unprobed p k (p.size == 0) is)
