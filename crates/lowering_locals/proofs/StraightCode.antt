-- Code that goes straight on, or jumps within itself, where one set is recorded all along.
use Rattle.std.proofs.Common.{◌≡◌, ◌⊎◌, inl, inr, ℕ, zero, suc, ◌+◌, ◌<◌, ◌≤◌, List, [], ◌∷◌, ◌++◌, length, refl, sym, ap, subst, ◌∙◌, arith}
use Rattle.std.proofs.lemmas.Bool.{cases_lt}
use Rattle.std.specs.List.{AllByRecursion}
use Rattle.std.specs.Prelude.{Bool, true, false, replicate, slice_get, Some}
use Rattle.lowering_locals.specs.Words.{Slot, Local, Temporary, Instruction, LinearProgram, BodyName, is_constant, SeenNames, IsPart, with_slot, ReadsIn, OperandsIn, IsLocalOf, locals_at, Leads, set_in, none_seen}
use Rattle.linear_code.specs.declared.instruction.Instruction.TheVariants as instructions
use Rattle.lowering_locals.proofs.Lemmas.{IsSegmentAt, same_it, sees_before}

-- ---- what is recorded at a place

get_is : (list : List SeenNames) (at : ℕ) (seen : SeenNames) → slice_get list at ≡ Some seen
    → set_in list at ≡ seen
get_is [] at seen e = absurd (cc)
get_is (y ∷ list) zero seen e = same_it y seen e
get_is (y ∷ list) (suc at) seen e = get_is list at seen e

pub is_same : (a b : SeenNames) → a ≡ b → IsPart a b
is_same a b e x h = ap (λ (f : SeenNames). f x) (sym e) ∙ h

pub is_same_back : (a b : SeenNames) → a ≡ b → IsPart b a
is_same_back a b e x h = ap (λ (f : SeenNames). f x) e ∙ h

-- the first of a part that is there
pub head_recorded : (list : List SeenNames) (at : ℕ) (seen : SeenNames) (rest : List SeenNames)
    → IsSegmentAt list at (seen ∷ rest) → set_in list at ≡ seen
head_recorded list at seen rest h = get_is list at seen h.0

pub past_end : (list : List SeenNames) (label : ℕ) → length list ≤ label
    → set_in list label ≡ none_seen
past_end [] label le = refl
past_end (y ∷ list) zero le = absurd (omega arith)
past_end (y ∷ list) (suc label) le = past_end list label (omega arith)

-- from one place to another a set is recorded, and where it ends no more
pub record Even (own : ℕ → SeenNames) (seen : SeenNames) (lo hi : ℕ) : Type 0 where
  pub inside : (label : ℕ) → lo ≤ label → label < hi → own label ≡ seen
  pub end : IsPart (own hi) seen

pub even_part : (own : ℕ → SeenNames) (seen : SeenNames) (lo hi lo' hi' : ℕ) → Even own seen lo hi
    → lo ≤ lo' → lo' ≤ hi' → hi' ≤ hi → Even own seen lo' hi'
even_part own seen lo hi lo' hi' e a m b = record {
  inside = λ label le lt. e.inside label
      (omega arith) (omega arith);
  end = of (cases_lt hi' hi);
}
  where
    of : (hi' < hi) ⊎ (hi ≤ hi') → IsPart (own hi') seen
    of (inl lt) = is_same (own hi') seen (e.inside hi' (omega arith) lt)
    of (inr le) = let same : hi ≡ hi' = omega arith in subst (λ n. IsPart (own n) seen) same e.end

evenly : (list : List SeenNames) (seen : SeenNames) (n at : ℕ)
    → IsSegmentAt list at (replicate n seen) → (label : ℕ) → at ≤ label → label < at + n
    → set_in list label ≡ seen
evenly list seen zero at h label le lt = absurd (omega arith)
evenly list seen (suc n) at h label le lt = of (cases_lt at label)
    (λ more. evenly list seen n (at + 1) h.1 label (omega arith) (omega arith))
  where
    of : (at < label) ⊎ (label ≤ at) → (at < label → set_in list label ≡ seen)
        → set_in list label ≡ seen
    of (inl more) go = go more
    of (inr last) go = let same : at ≡ label = omega arith in ap (set_in list) (sym same)
        ∙ get_is list at seen h.0

pub even_list : (list : List SeenNames) (seen : SeenNames) (n at hi : ℕ) → at + n ≡ hi
    → IsSegmentAt list at (replicate n seen) → IsPart (set_in list hi) seen
    → Even (set_in list) seen at hi
even_list list seen n at hi e h end = record {
  inside = λ label le lt. evenly list seen n at h label
      le (omega arith);
  end = end;
}

-- ---- instructions of such code

module _ (locals lo hi : ℕ) (seen : SeenNames) where
  abbrev pub IsWithin : ℕ → Type 0
  IsWithin label = (lo ≤ label) × (label ≤ hi)

  abbrev pub Fine : Instruction → Type 0
  Fine (instructions.Compute to o first second) = OperandsIn (is_constant o) seen first second
      × IsLocalOf locals to
  Fine (instructions.Information to field) = IsLocalOf locals to
  Fine (instructions.Jump label) = IsWithin label
  Fine (instructions.JumpIfZero slot label) = ReadsIn seen slot × IsWithin label
  Fine (instructions.Call f first count) = Unit {0}
  Fine (instructions.CallBuiltIn f first) = Unit {0}
  Fine (instructions.CallFinally k) = ⊥
  Fine (instructions.LocalUnwind label) = ⊥
  Fine (instructions.Landing to) = ⊥
  Fine instructions.Separator = Unit {0}
  Fine (instructions.Return from) = ReadsIn seen from

  abbrev pub AllFine : List Instruction → Type 0
  AllFine code = AllByRecursion Fine code

-- temporaries aren't among them
pub temporaries_in : (b : Bool) (seen : SeenNames) (i k : ℕ)
    → OperandsIn b seen (Temporary i) (Temporary k)
temporaries_in true seen i k = tt
temporaries_in false seen i k = (tt, tt)

module _ (program : LinearProgram) (sets : BodyName → ℕ → SeenNames) (name : BodyName) where
  abbrev pub AllLead : ℕ → List Instruction → Type 0
  AllLead at [] = Unit {0}
  AllLead at (i ∷ is) = Leads program sets name at i × AllLead (at + 1) is

  pub both_lead : (at to : ℕ) (a b : List Instruction) → at + length a ≡ to → AllLead at a
      → AllLead to b → AllLead at (a ++ b)
  both_lead at to [] b e h k = let same : to ≡ at = omega arith in subst (λ n. AllLead n b) same k
  both_lead at to (i ∷ a) b e h k = (h.0, both_lead (at + 1) to a b (omega arith) h.1 k)

  pub lead_at : (at : ℕ) (code : List Instruction) (label : ℕ) (i : Instruction) → AllLead at code
      → slice_get code label ≡ Some i → Leads program sets name (at + label) i
  lead_at at [] label i h e = absurd (cc)
  lead_at at (j ∷ code) zero i h e = let same : at ≡ at + 0 = omega arith in
      subst (λ n. Leads program sets name n i) same
      (subst (Leads program sets name at) (same_it j i e) h.0)
  lead_at at (j ∷ code) (suc label) i h e = let same : at + 1 + label
      ≡ at + suc label = omega arith in subst (λ n. Leads program sets name n i) same
      (lead_at (at + 1) code label i h.1 e)

  -- a read of what is seen
  pub reads_recorded : (own seen : SeenNames) (slot : Slot) → own ≡ seen → ReadsIn seen slot
      → ReadsIn own slot
  reads_recorded own seen slot e r = subst (λ (s : SeenNames). ReadsIn s slot) (sym e) r

  written_part : (a b : SeenNames) (to : Slot) → IsPart a b → IsPart a (with_slot to b)
  written_part a b (Local x) h y e = sees_before b x y (h y e)
  written_part a b (Temporary i) h y e = h y e

  module _ (locals : ℕ) (room : locals_at program name ≡ locals) (seen : SeenNames) (lo hi : ℕ)
      (even : Even (sets name) seen lo hi) where
    -- at a place of it and at the next one no more is recorded than at each of its places
    at_most : (label : ℕ) → lo ≤ label → label ≤ hi → IsPart (sets name label) seen
    at_most label le lt = (even_part (sets name) seen lo hi lo label even (omega arith) le lt).end

    one : (at : ℕ) (i : Instruction) → lo ≤ at → at < hi → Fine locals lo hi seen i
        → Leads program sets name at i
    one at i le lt h = of i h
      where
        here : sets name at ≡ seen
        here = even.inside at le lt

        from : (label : ℕ) → lo ≤ label → label ≤ hi → IsPart (sets name label) (sets name at)
        from label a b x e = is_same_back (sets name at) seen here x (at_most label a b x e)

        next : IsPart (sets name (at + 1)) (sets name at)
        next = from (at + 1) (omega arith) (omega arith)

        is_local : (to : Slot) → IsLocalOf locals to → IsLocalOf (locals_at program name) to
        is_local to l = subst (λ n. IsLocalOf n to) (sym room) l

        of : (i : Instruction) → Fine locals lo hi seen i → Leads program sets name at i
        of (instructions.Compute to o first second) h = (
          subst (λ (s : SeenNames). OperandsIn (is_constant o) s first second) (sym here) h.0,
          is_local to h.1,
          written_part (sets name (at + 1)) (sets name at) to next,
        )
        of (instructions.Information to field)
            h = (is_local to h, written_part (sets name (at + 1)) (sets name at) to next)
        of (instructions.Jump label) h = from label h.0 h.1
        of (instructions.JumpIfZero slot label)
            h = (reads_recorded (sets name at) seen slot here h.0, from label h.1.0 h.1.1, next)
        of (instructions.Call f first count) h = next
        of (instructions.CallBuiltIn f first) h = next
        of instructions.Separator h = next
        of (instructions.Return slot) h = reads_recorded (sets name at) seen slot here h
        of i h = absurd h

    pub straight : (at : ℕ) (code : List Instruction) → lo ≤ at → at + length code ≤ hi
        → AllFine locals lo hi seen code → AllLead at code
    straight at [] a b h = tt
    straight at (i ∷ code) a b h = (
      one at i a (omega arith) h.0,
      straight (at + 1) code (omega arith) (omega arith) h.1,
    )
