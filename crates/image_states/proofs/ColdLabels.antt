-- Which labels are cold, in a body whose cold parts can stand apart.
use Rattle.std.proofs.Common.{◌≡◌, ◌≢◌, ℕ, ◌+◌, ◌<◌, ◌≤◌, Bool, true, false, ltb, leb, List, [], ◌∷◌, Some, refl, sym, ap, ◌∙◌, arith, inl, inr}
use Rattle.std.specs.Prelude.{◌&&◌, ◌||◌, slice_get}
use Rattle.std.specs.List.{AllByRecursion}
use Rattle.std.proofs.lemmas.Bool.{and_parts, cases_lt, false≢true, leb-true, ltb-true, lt-ltb, le-ltb, le-leb, lt-leb}
use Rattle.linear_code.specs.declared.instruction.Instruction.TheVariants as instructions
use Rattle.linear_code.specs.declared.program.LabelRange.{LabelRange}
use Rattle.lowering_invariants.specs.ColdParts.{IsAfterJump, IsColdPart, AreRising, HasColdParts, may_be_cold}
use Rattle.template_code.specs.ColdParts.{holds, is_cold, falls_through}
use Rattle.image_states.proofs.Lemmas.{some_same}
use Rattle.linear_machine.specs.Regions as linear
use Rattle.image_tables.specs.RegionRanges.{IsRange}
use Rattle.image_states.specs.Words.{Instruction, LinearBody, Slot, Region}

-- ---- one part

pub holds_parts : (label : ℕ) (p : LabelRange) → holds label p ≡ true
    → (p.begin ≤ label) × (label < p.end)
holds_parts label p e =
    let b = and_parts (leb p.begin label) (ltb label p.end) e in
    (leb-true p.begin label b.0, ltb-true label p.end b.1)

ahead : (label : ℕ) (p : LabelRange) → label < p.begin → holds label p ≡ false
ahead label p lt = ap (λ (b : Bool). b && ltb label p.end) (lt-leb p.begin label lt)

-- ---- the first label

first_in : (low label : ℕ) (b : LinearBody) (ps : List LabelRange) → AreRising low ps
    → AllByRecursion (IsColdPart b) ps → label ≤ low → is_cold ps label ≡ false
first_in low label b [] rising parts le = refl
first_in low label b (p ∷ ps) rising parts le =
    let some = parts.0.some in
    let after = rising.0 in
    ap (λ (c : Bool). c || is_cold ps label) (ahead label p (omega arith))
    ∙ first_in p.end label b ps rising.1 parts.1 (omega arith)

pub first_hot : (b : LinearBody) → HasColdParts b → is_cold b.cold 0 ≡ false
first_hot b h = first_in 0 0 b b.cold h.rising h.parts (omega arith)

-- ---- what no cold part has

plain_in : (b : LinearBody) (ps : List LabelRange) (label : ℕ) (i : Instruction)
    → AllByRecursion (IsColdPart b) ps → slice_get b.code label ≡ Some i → may_be_cold i ≡ false
    → is_cold ps label ≡ false
plain_in b [] label i parts there bars = refl
plain_in b (p ∷ ps) label i parts there bars =
    by (holds label p) refl (plain_in b ps label i parts.1 there bars)
  where
    by : (c : Bool) → holds label p ≡ c → is_cold ps label ≡ false
        → (c || is_cold ps label) ≡ false
    by true e more =
        let at = holds_parts label p e in
        absurd (false≢true (sym bars ∙ parts.0.plain label i at.0 at.1 there))
    by false e more = more

-- a return is in none
pub return_hot : (b : LinearBody) (label : ℕ) (from : Slot) → HasColdParts b
    → slice_get b.code label ≡ Some (instructions.Return from) → is_cold b.cold label ≡ false
return_hot b label from h there =
    plain_in b b.cold label (instructions.Return from) h.parts there refl

-- ---- an instruction that falls through is on the side of the next one

-- what is before these labels is a jump
after_no_jump : (code : List Instruction) (label bound : ℕ) (i : Instruction)
    → slice_get code label ≡ Some i → falls_through i ≡ true → IsAfterJump code bound
    → bound ≢ label + 1
after_no_jump code label bound i there falls jump e =
    let before = jump.before in
    let q : bound ≡ label + 1 = e in
    let at : jump.place ≡ label = omega arith in
    let same : i ≡ instructions.Jump jump.to = some_same (sym there ∙ ap (slice_get code) (sym at)
    ∙ jump.jump) in
    absurd (false≢true (sym (ap falls_through same) ∙ falls))

-- a bound is past one label exactly where it is past the next
bound_apart : (label bound : ℕ) → bound ≢ label + 1 → leb bound (label + 1) ≡ leb bound label
bound_apart label bound ne = elim (cases_lt label bound) [
  | inl lt ↦ elim (cases_lt (label + 1) bound) [
    | inl more ↦ lt-leb bound (label + 1) more ∙ sym (lt-leb bound label lt)
    | inr le ↦ absurd (ne (omega arith))
  ]
  | inr le ↦ le-leb bound (label + 1) (omega arith) ∙ sym (le-leb bound label le)
]

end_apart : (label bound : ℕ) → bound ≢ label + 1 → ltb (label + 1) bound ≡ ltb label bound
end_apart label bound ne = elim (cases_lt label bound) [
  | inl lt ↦ elim (cases_lt (label + 1) bound) [
    | inl more ↦ lt-ltb (label + 1) bound more ∙ sym (lt-ltb label bound lt)
    | inr le ↦ absurd (ne (omega arith))
  ]
  | inr le ↦ le-ltb (label + 1) bound (omega arith) ∙ sym (le-ltb label bound le)
]

same_in : (b : LinearBody) (ps : List LabelRange) (label : ℕ) (i : Instruction)
    → AllByRecursion (IsColdPart b) ps → slice_get b.code label ≡ Some i → falls_through i ≡ true
    → is_cold ps (label + 1) ≡ is_cold ps label
same_in b [] label i parts there falls = refl
same_in b (p ∷ ps) label i parts there falls =
    let from = bound_apart label p.begin
    (after_no_jump b.code label p.begin i there falls parts.0.begins) in
    let to = end_apart label p.end
    (after_no_jump b.code label p.end i there falls parts.0.ends) in
    let more = same_in b ps label i parts.1 there falls in
    (λ k. (from k && to k) || more k)

pub same_side : (b : LinearBody) (label : ℕ) (i : Instruction) → HasColdParts b
    → slice_get b.code label ≡ Some i → falls_through i ≡ true
    → is_cold b.cold (label + 1) ≡ is_cold b.cold label
same_side b label i h there falls = same_in b b.cold label i h.parts there falls

-- ---- regions hold none of them

pub cold_unheld : (b : LinearBody) (r : Region) (label : ℕ) → IsRange b r
    → is_cold b.cold label ≡ true → linear.holds label r ≡ false
cold_unheld b r label range cold = by (linear.holds label r) refl
  where
    by : (h : Bool) → linear.holds label r ≡ h → h ≡ false
    by true e =
        let at = and_parts (leb r.begin label) (ltb label r.end) e in
        let lt = ltb-true label r.end at.1 in
        absurd (false≢true (sym (range.hot label (leb-true r.begin label at.0) (omega arith))
        ∙ cold))
    by false e = refl

pub all_unheld : (b : LinearBody) (label : ℕ) (rs : List Region) → AllByRecursion (IsRange b) rs
    → is_cold b.cold label ≡ true → AllByRecursion (λ (r : Region). linear.holds label r ≡ false) rs
all_unheld b label [] ranges cold = tt
all_unheld b label (r ∷ rs) ranges cold =
    (cold_unheld b r label ranges.0 cold, all_unheld b label rs ranges.1 cold)
