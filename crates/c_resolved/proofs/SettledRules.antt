-- What a rule gives is good, or there is a fault; and what names mean where this holds.
use Rattle.std.proofs.Common.{◌≡◌, ℕ, ◌^◌, refl, subst, ◌+◌, ◌*◌, ◌<◌}
use Rattle.std.specs.Prelude.{Bool, true, false, nat_lt, List, [], ◌∷◌, ◌++◌, map, slice_get, Option, Some, None}
use Rattle.c_resolved.specs.Words.{Size, CType, Identifier, Fault, TypeClash, is_scalar, access_of, size_of, TypedNode, Entity, LocalVariable, GlobalVariable, UserFunction, BuiltInFunction, Names, FaultAt, fault_at, ResolvedExpression, ruled, rule_1, rule_2, rule_3, given_that, result_size, LocalArray, Layout, Place, place_of, stored_bytes, element_count, is_size}
use Rattle.c_resolved.proofs.Settings.{Setting}
use Rattle.c_operations.specs.declared.operation.Size.TheVariants as sizes
use Rattle.c_checked.specs.Program.{Function}
use Rattle.c_checked.specs.Sound.{handler_fits}
use Rattle.c_resolved.proofs.Operands.{IsGood, GoodIf}

-- ---- faults

-- there is a fault
abbrev pub HasFault : List FaultAt → Type 0
HasFault [] = ⊥
HasFault (f ∷ fs) = Unit {0}

pub fault_before : (fs gs : List FaultAt) → HasFault fs → HasFault (fs ++ gs)
fault_before [] gs h = absurd h
fault_before (f ∷ fs) gs h = tt

pub fault_after : (fs gs : List FaultAt) → HasFault gs → HasFault (fs ++ gs)
fault_after [] gs h = h
fault_after (f ∷ fs) gs h = tt

pub no_fault : (fs : List FaultAt) → fs ≡ [] → HasFault fs → ⊥
no_fault fs e h = subst HasFault e h

-- ---- what is found is good; where nothing is found, there is a fault

abbrev pub FoundOr : Setting → Option TypedNode → List FaultAt → Type 0
FoundOr S None fs = HasFault fs
FoundOr S (Some t) fs = IsGood S t

abbrev pub IsSettled : Setting → ResolvedExpression → Type 0
IsSettled S j = FoundOr S j.found j.faults

pub found_before : (S : Setting) (o : Option TypedNode) (fs gs : List FaultAt) → FoundOr S o fs
    → FoundOr S o (fs ++ gs)
found_before S None fs gs h = fault_before fs gs h
found_before S (Some t) fs gs h = h

pub found_after : (S : Setting) (o : Option TypedNode) (fs gs : List FaultAt) → FoundOr S o gs
    → FoundOr S o (fs ++ gs)
found_after S None fs gs h = fault_after fs gs h
found_after S (Some t) fs gs h = h

pub ruled_settled : (S : Setting) (at : ℕ) (f : Fault) (fs : List FaultAt) (o : Option TypedNode)
    → GoodIf S o → IsSettled S (ruled at f fs o)
ruled_settled S at f fs None g = fault_after fs (fault_at at f) tt
ruled_settled S at f fs (Some t) g = g

pub rule_1_settled : (S : Setting) (at : ℕ) (rule : TypedNode → Option TypedNode)
    (fs : List FaultAt) (o : Option TypedNode) → FoundOr S o fs
    → ((a : TypedNode) → IsGood S a → GoodIf S (rule a)) → IsSettled S (rule_1 at rule fs o)
rule_1_settled S at rule fs None h r = h
rule_1_settled S at rule fs (Some a) h r = ruled_settled S at TypeClash fs (rule a) (r a h)

pub rule_2_settled : (S : Setting) (at : ℕ) (rule : TypedNode → TypedNode → Option TypedNode)
    (fs : List FaultAt) (o p : Option TypedNode) → FoundOr S o fs → FoundOr S p fs
    → ((a b : TypedNode) → IsGood S a → IsGood S b → GoodIf S (rule a b))
    → IsSettled S (rule_2 at rule fs o p)
rule_2_settled S at rule fs None p h k r = h
rule_2_settled S at rule fs (Some a) p h k r = rule_1_settled S at (rule a) fs p k
    (λ b g. r a b h g)

pub rule_3_settled : (S : Setting) (at : ℕ)
    (rule : TypedNode → TypedNode → TypedNode → Option TypedNode) (fs : List FaultAt)
    (o p q : Option TypedNode) → FoundOr S o fs → FoundOr S p fs → FoundOr S q fs
    → ((a b c : TypedNode) → IsGood S a → IsGood S b → IsGood S c → GoodIf S (rule a b c))
    → IsSettled S (rule_3 at rule fs o p q)
rule_3_settled S at rule fs None p q h k l r = h
rule_3_settled S at rule fs (Some a) p q h k l r = rule_2_settled S at (rule a) fs p q k l
    (λ b c g i. r a b c h g i)

pub given_that_settled : (S : Setting) (b : Bool) (at : ℕ) (f : Fault) (fs : List FaultAt)
    (j : ResolvedExpression) → (b ≡ true → IsSettled S j) → IsSettled S (given_that b at f fs j)
given_that_settled S true at f fs j h = h refl
given_that_settled S false at f fs j h = fault_after fs (fault_at at f) tt

-- two expressions, under one rule
pub rule_of_two : (S : Setting) (at : ℕ) (rule : TypedNode → TypedNode → Option TypedNode)
    (a b : ResolvedExpression) → IsSettled S a → IsSettled S b
    → ((x y : TypedNode) → IsGood S x → IsGood S y → GoodIf S (rule x y))
    → IsSettled S (rule_2 at rule (a.faults ++ b.faults) a.found b.found)
rule_of_two S at rule a b g h r =
    rule_2_settled S at rule (a.faults ++ b.faults) a.found b.found
    (found_before S a.found a.faults b.faults g) (found_after S b.found a.faults b.faults h) r

-- ---- what names mean

-- a function of this number with this result and these parameters
pub record FunctionFits (functions : List Function) (k : ℕ) (t : CType) (ps : List CType) : Type 0
  where
    pub function : Function
    pub there : slice_get functions k ≡ Some function
    pub takes : function.parameters ≡ map size_of ps
    pub gives : function.returns ≡ result_size t

-- a place of a variable of this type, above a base
abbrev pub PlaceFits : List Size → ℕ → CType → Option ℕ → Option Place → Type 0
PlaceFits zs base t elements None = Unit {0}
PlaceFits zs base t elements (Some p) = (is_size sizes.Long (slice_get zs base) ≡ true)
    × (p.access ≡ access_of t) × (p.elements ≡ elements)
    × (p.offset + stored_bytes t * element_count elements < 2 ^ 32)

abbrev pub EntityFits : List Function → List Size → Layout → Entity → Type 0
EntityFits fs zs l (LocalVariable x t) = (slice_get zs x ≡ Some (size_of t))
    × PlaceFits zs l.base t None (place_of l x) × (is_scalar t ≡ true)
EntityFits fs zs l (LocalArray x t) = (n : ℕ) × PlaceFits zs l.base t (Some n) (place_of l x)
EntityFits fs zs l (GlobalVariable a t) = (nat_lt a (2 ^ 64) ≡ true) × (is_scalar t ≡ true)
EntityFits fs zs l (UserFunction k t ps) = FunctionFits fs k t ps
EntityFits fs zs l (BuiltInFunction k) = handler_fits fs k ≡ true
EntityFits fs zs l other = Unit {0}

abbrev pub MeaningFits : List Function → List Size → Layout → Option Entity → Type 0
MeaningFits fs zs l None = Unit {0}
MeaningFits fs zs l (Some e) = EntityFits fs zs l e

-- what names mean fits the scope of the checked program
pub record NamesFit (S : Setting) (s : Names) : Type 0 where
  pub entities : (n : Identifier) → MeaningFits S.around.functions S.around.sizes S.layout
      (s.entity n)
  pub code : s.code ≡ true → S.around.code ≡ true
  pub information : s.information ≡ true → S.around.information ≡ true
  pub abnormal : s.abnormal ≡ true → S.around.abnormal ≡ true
