-- Cold parts: how many an `else` branch makes, and that those of a body are one after another,
-- behind its first instruction.
use Rattle.std.proofs.Common.{◌≡◌, ℕ, ◌+◌, ◌≤◌, List, [], ◌∷◌, length, refl, arith}
use Rattle.std.specs.Prelude.{Bool, true, false, if◌then◌else◌}
use Rattle.std.specs.List.{AllByRecursion}
use Rattle.c_checked.specs.Statement.{Statement}
use Rattle.linear_code.specs.declared.program.LabelRange.{LabelRange}
use Rattle.seh_ir.specs.ColdParts.{is_cold, cold_range, branch_cold, statement_cold}
use Rattle.lowering_invariants.specs.ColdParts.{IsColdPart, AreRising, HasColdParts}
use Rattle.template_code.specs.ColdParts.{AreParts}
use Rattle.template_code.specs.ColdParts as apart
use Rattle.template_code.proofs.ColdParts.{cold_before}
use Rattle.text_bounds.specs.Words.{LinearBody, statement_size}

one_or_more : (cold : Bool) (r : LabelRange) (rs : List LabelRange)
    → length (if cold then r ∷ [] else rs) ≤ 1 + length rs
one_or_more true r rs = omega arith
one_or_more false r rs = omega arith

-- itself, or those in it
pub branch_count : (t : Statement) (at : ℕ)
    → length (branch_cold t at) ≤ 1 + length (statement_cold t at)
branch_count t at = one_or_more (is_cold t) (cold_range at (at + statement_size t + 1))
    (statement_cold t at)

parts_from : (b : LinearBody) (rs : List LabelRange) (low : ℕ) → low ≤ length b.code
    → AllByRecursion (IsColdPart b) rs → AreRising low rs → AreParts low rs (length b.code)
parts_from b [] low le parts rising = le
parts_from b (r ∷ rs) low le parts rising =
    let after = rising.0 in
    let inside = parts.0.inside in (
      omega arith,
      parts.0.some,
      parts_from b rs r.end (omega arith) parts.1 rising.1,
    )

pub are_parts : (b : LinearBody) → HasColdParts b → AreParts 0 b.cold (length b.code)
are_parts b h = parts_from b b.cold 0 (omega arith) h.parts h.rising

first_of : (b : LinearBody) (rs : List LabelRange) → AllByRecursion (IsColdPart b) rs
    → AreRising 0 rs → apart.is_cold rs 0 ≡ false
first_of b [] parts rising = refl
first_of b (r ∷ rs) parts rising =
    let after = rising.0 in
    let inside = parts.0.inside in
    cold_before 1 (length b.code) (r ∷ rs) 0
    (omega arith, parts.0.some, parts_from b rs r.end (omega arith) parts.1 rising.1) (omega arith)

pub first_hot : (b : LinearBody) → HasColdParts b → apart.is_cold b.cold 0 ≡ false
first_hot b h = first_of b b.cold h.parts h.rising
