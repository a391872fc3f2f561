-- The code that a function begins and ends with is beside its sets: it sets the local that keeps
-- its base, and brings parameters to the data stack.
use Rattle.std.proofs.Common.{◌≡◌, ◌⊎◌, inl, inr, ℕ, ◌+◌, ◌-◌, ◌<◌, ◌≤◌, List, [], ◌∷◌, ◌++◌, length, refl, sym, ap, subst, ◌∙◌, arith}
use Rattle.std.proofs.lemmas.Bool.{eqb-true, eq-eqb, ltb-true, lt-ltb}
use Rattle.std.proofs.lemmas.List.{length-replicate}
use Rattle.std.specs.Prelude.{Bool, true, false, ◌||◌, nat_lt, replicate, Option, Some, None}
use Rattle.c_operations.specs.declared.operation.Size.{Size}
use Rattle.c_checked.specs.Program.{DataFrame, part_of}
use Rattle.c_checked.specs.Sound.{data_sound, parameters_sound}
use Rattle.c_checked.specs.declared.function.StackedParameter.{StackedParameter}
use Rattle.seh_ir.specs.Lowered.{bring_code, open_code, open_size, close_code}
use Rattle.lowering_locals.specs.Words.{Temporary, LinearProgram, BodyName, constant, SeenNames, IsPart, with_local, is_base, first_seen, locals_at, open_sets, end_size, set_in}
use Rattle.linear_code.specs.declared.instruction.Instruction.TheVariants as instructions
use Rattle.lowering_locals.proofs.Lemmas.{open_length, IsSegmentAt, both_left, both_right, is_first, sees_own, sees_before}
use Rattle.lowering_locals.proofs.StraightCode.{is_same, head_recorded, even_part, even_list, AllFine, AllLead, straight}
use Rattle.lowering_locals.proofs.ExpressionSets.{BaseIn}

-- ---- what is seen in a function

first_or : (a b : Bool) → a ≡ true → (a || b) ≡ true
first_or true b h = refl
first_or false b h = absurd (cc)

second_or : (a b : Bool) → b ≡ true → (a || b) ≡ true
second_or true b h = refl
second_or false b h = h

parameter_seen : (n : ℕ) (d : Option DataFrame) (x : ℕ) → x < n → first_seen n d x ≡ true
parameter_seen n d x lt = first_or (nat_lt x n) (is_base d x) (lt-ltb x n lt)

pub base_seen : (n : ℕ) (d : Option DataFrame) → BaseIn (first_seen n d) (part_of d)
base_seen n None = tt
base_seen n (Some d) =
    second_or (nat_lt d.base n) (is_base (Some d) d.base) (eq-eqb d.base d.base refl)

-- the parameters, and the base that is set after them
base_last : (n : ℕ) (d : DataFrame)
    → IsPart (first_seen n (Some d)) (with_local d.base (first_seen n None))
base_last n d x h = of (is_first n (Some d) x h)
  where
    of : (x < n) ⊎ (is_base (Some d) x ≡ true) → with_local d.base (first_seen n None) x ≡ true
    of (inl lt) = sees_before (first_seen n None) d.base x (parameter_seen n None x lt)
    of (inr e) = subst (λ y. with_local d.base (first_seen n None) y ≡ true)
        (sym (eqb-true x d.base e)) (sees_own (first_seen n None) d.base)

-- each is one of the function's locals
pub first_below : (n : ℕ) (locals : List Size) (d : Option DataFrame)
    → data_sound n locals d ≡ true → (x : ℕ) → first_seen n d x ≡ true → x < n + length locals
first_below n locals d ok x h = of (is_first n d x h)
  where
    at_base : (d : Option DataFrame) → data_sound n locals d ≡ true → is_base d x ≡ true
        → x < n + length locals
    at_base None ok e = absurd (cc)
    at_base (Some d) ok e =
        let some = both_left _ _ (both_left _ _ (both_left _ _ (both_left _ _ ok))) in
        let there = ltb-true 0 (length locals) (both_left _ _ some) in
        let last : d.base ≡ n + (length locals - 1) = eqb-true d.base (n + (length locals - 1))
        (both_right _ _ some) in
        let same = eqb-true x d.base e in
        omega arith

    of : (x < n) ⊎ (is_base d x ≡ true) → x < n + length locals
    of (inl lt) = omega arith
    of (inr e) = at_base d ok e

-- ---- the beginning

-- the parameters on the data stack
abbrev pub AreBrought : ℕ → Option DataFrame → Type 0
AreBrought n None = Unit {0}
AreBrought n (Some d) = parameters_sound n d.parameters ≡ true

pub are_brought : (n : ℕ) (locals : List Size) (d : Option DataFrame)
    → data_sound n locals d ≡ true → AreBrought n d
are_brought n locals None ok = tt
are_brought n locals (Some d) ok = both_right _ _ ok

pub open_sets_long : (n : ℕ) (d : Option DataFrame) → length (open_sets n d) ≡ open_size d
open_sets_long n None = refl
open_sets_long n (Some d) =
    let l = length-replicate (length d.parameters) (first_seen n (Some d)) in
    omega arith

bring_fine : (locals lo hi n base : ℕ) (seen : SeenNames) (ps : List StackedParameter)
    → seen base ≡ true → ((x : ℕ) → x < n → seen x ≡ true)
    → ((x : ℕ) → seen x ≡ true → x < locals) → parameters_sound n ps ≡ true
    → AllFine locals lo hi seen (bring_code base ps)
bring_fine locals lo hi n base seen [] b parameters below ok = tt
bring_fine locals lo hi n base seen (p ∷ ps) b parameters below ok =
    let lt = ltb-true p.parameter n (both_left _ _ (both_left _ _ ok)) in
    let own = parameters p.parameter lt in (
      ((b, own), below p.parameter own),
      bring_fine locals lo hi n base seen ps b parameters below (both_right _ _ ok),
    )

module _ (linear : LinearProgram) (lists : BodyName → List SeenNames) (name : BodyName)
    (locals : ℕ) (room : locals_at linear name ≡ locals) (n : ℕ) where
  abbrev sets : BodyName → ℕ → SeenNames
  sets b label = set_in (lists b) label

  abbrev IsRecordedAt : ℕ → SeenNames → Type 0
  IsRecordedAt label seen = IsPart (sets name label) seen

  pub opens_lead : (d : Option DataFrame) (at : ℕ)
      → ((x : ℕ) → first_seen n d x ≡ true → x < locals) → AreBrought n d
      → IsSegmentAt (lists name) at (open_sets n d)
      → IsRecordedAt (at + open_size d) (first_seen n d)
      → AllLead linear sets name at (open_code d) × IsRecordedAt at (first_seen n None)
  opens_lead None at below brought h end = let same : at + 0 ≡ at = omega arith in
      (tt, subst (λ k. IsRecordedAt k (first_seen n None)) same end)
  opens_lead (Some d) at below brought h end =
      let seen = first_seen n (Some d) in
      let count = length d.parameters in
      let hi = at + 1 + count in
      let l = open_length (Some d) in
      let first = head_recorded (lists name) at (first_seen n None) (replicate count seen) h in
      let same : at + (1 + count) ≡ hi = omega arith in
      let even = even_list (lists name) seen count (at + 1) hi refl h.1
      (subst (λ k. IsRecordedAt k seen) same end) in
      let next = (even_part (sets name) seen (at + 1) hi (at + 1) (at + 1) even (omega arith)
      (omega arith) (omega arith)).end in
      let base = base_seen n (Some d) in (
        (
          (
            tt,
            subst (λ k. d.base < k) (sym room) (below d.base base),
            λ x e. ap (λ (f : SeenNames). with_local d.base f x) first
                ∙ base_last n d x (next x e),
          ),
          straight linear sets name locals room seen (at + 1) hi even (at + 1)
              (bring_code d.base d.parameters) (omega arith) (omega arith)
              (bring_fine locals (at + 1) hi n d.base seen d.parameters base
              (λ x lt. parameter_seen n (Some d) x lt) below brought),
        ),
        is_same (sets name at) (first_seen n None) first,
      )

-- ---- the end

pub end_long : (d : Option DataFrame)
    → length (constant 0 0 ∷ (close_code d ++ instructions.Return (Temporary 0) ∷ []))
    ≡ end_size d
end_long None = refl
end_long (Some d) = refl

pub two_at_least : (d : Option DataFrame) → 2 ≤ end_size d
two_at_least None = omega arith
two_at_least (Some d) = omega arith

pub end_fine : (locals lo hi : ℕ) (d : Option DataFrame) (seen : SeenNames)
    → BaseIn seen (part_of d) → ((x : ℕ) → seen x ≡ true → x < locals)
    → AllFine locals lo hi seen (constant 0 0
    ∷ (close_code d ++ instructions.Return (Temporary 0) ∷ []))
end_fine locals lo hi None seen b below = ((tt, tt), (tt, tt))
end_fine locals lo hi (Some d) seen b below =
    ((tt, tt), (((b, b), below d.base b), (tt, tt)))
