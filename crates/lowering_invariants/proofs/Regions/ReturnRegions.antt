-- In lowered code a call and the instruction after it are inside the same regions: what is before
-- the places where regions begin and end is no call.
use Rattle.std.proofs.Common.{◌≡◌, ℕ, zero, suc, ◌+◌, ◌<◌, List, [], ◌∷◌, ◌++◌, length, replicate, filter, refl, sym, ap, subst, ◌∙◌, arith, append-nil}
use Rattle.std.specs.List.{AllByRecursion}
use Rattle.std.specs.Prelude.{Bool, true, false, cond, ◌&&◌, nat_le, nat_lt, slice_get, Option, Some, None}
use Rattle.c_checked.specs.declared.function.DataPart.{DataPart}
use Rattle.c_checked.specs.declared.function.StackedParameter.{StackedParameter}
use Rattle.seh_ir.specs.Funclets.{finally_begin}
use Rattle.c_checked.specs.Program.{DataFrame}
use Rattle.c_operations.specs.declared.operation.Operation.TheVariants.{Place, Allocate}
use Rattle.seh_ir.specs.Lowered.{bring_code, open_code, close_code, body_start}
use Rattle.seh_ir.specs.Statements.{landed}
use Rattle.linear_code.specs.declared.instruction.Instruction.TheVariants.{Compute}
use Rattle.lowering_invariants.proofs.Places.DepthStatements.{begin_three}
use Rattle.lowering_invariants.specs.Words.{Expression, Program, Function, surplus, asking, Statements, Local, Temporary, Instruction, Jump, JumpIfZero, Separator, LocalUnwind, Region, LinearBody, BodyName, body_of, holds, statements_notes, Owner, Names, Way, Nowhere, Jumps, LoweringContext, finally_scope, constant, copy, expression_code, return_code, returned_code, statements_code, statements_regions, finally_funclet, first_separators, scope_of, lowered_function, lowered, LoweredIsApart, filter_funclet}
use Rattle.linear_code.specs.declared.instruction.Instruction.TheVariants.{Return}
use Rattle.lowering_expressions.specs.declared.scope.Way.TheVariants.{Unwinds}
use Rattle.lowering_invariants.proofs.Lemmas.{statements_have, WaysHave, IsPlaced, HoldsOfPieces, statements_every, HoldsOfAnyPieces, statements_any, neutral_of, all_append, IsSegmentAt, front, back, whole_is_at}
use Rattle.lowering_invariants.specs.ReturnRegions.{is_call}
use Rattle.lowering_invariants.proofs.SeparatorCounts.FirstSeparators.{function_begin, function_body_code, function_end, begin_length, code_is, body_at}
use Rattle.lowering_invariants.proofs.EveryBody.{every_body}
use Rattle.lowering_invariants.proofs.Stacks.StackTargets.{same_it}

differ : {X : Type 0} → false ≡ true → X
differ e = cc

-- ---- what is before the places where parts begin and end is no call

-- the last instruction is no call
abbrev EndsPlain : List Instruction → Type 0
EndsPlain [] = Unit {0}
EndsPlain (i ∷ []) = is_call i ≡ false
EndsPlain (i ∷ j ∷ is) = EndsPlain (j ∷ is)

ends_after : (xs : List Instruction) (i : Instruction) (is : List Instruction)
    → EndsPlain (i ∷ is) → EndsPlain (xs ++ i ∷ is)
ends_after [] i is h = h
ends_after (x ∷ []) i is h = h
ends_after (x ∷ y ∷ xs) i is h = ends_after (y ∷ xs) i is h

call_within : (is : List Instruction) (label : ℕ) (i : Instruction) → EndsPlain is
    → slice_get is label ≡ Some i → is_call i ≡ true → label + 1 < length is
call_within [] label i h e c = absurd (cc)
call_within (j ∷ []) zero i h e c = differ (sym h ∙ ap is_call (same_it j i e) ∙ c)
call_within (j ∷ []) (suc label) i h e c = absurd (cc)
call_within (j ∷ k ∷ is) zero i h e c = omega arith
call_within (j ∷ k ∷ is) (suc label) i h e c = let r = call_within (k ∷ is) label i h e c in
    omega arith

ends_both : (xs ys : List Instruction) → EndsPlain xs → EndsPlain ys → EndsPlain (xs ++ ys)
ends_both xs [] h k = subst EndsPlain (sym (append-nil xs)) h
ends_both xs (y ∷ ys) h k = ends_after xs y ys k

returned_ends : (xs : List Instruction) (exit : Way) → EndsPlain (xs ++ return_code exit)
returned_ends xs Nowhere = ends_after xs Separator (Separator ∷ []) refl
returned_ends xs (Jumps label) = ends_after xs (Jump label) (Separator ∷ []) refl
returned_ends xs (Unwinds label) = ends_after xs (LocalUnwind label) (Separator ∷ []) refl

landing_ends : (part : Option DataPart) (end x : ℕ) → EndsPlain (landed part end x)
landing_ends None end x = refl
landing_ends (Some p) end x = refl

pieces_end : HoldsOfAnyPieces (λ at xs rs. EndsPlain xs)
pieces_end = record {
  none = λ at. tt;
  both = λ at to xs ys rs qs e h k. ends_both xs ys h k;
  of_separator = λ at. refl;
  of_jump = λ at label l. refl;
  of_unwind = λ at label l. refl;
  of_landing = λ names m begin end at f le n o b t l. landing_ends names.part end names.free;
  of_finally = λ k begin at o b t. refl;
  of_zeroed = λ x at d. refl;
  of_put_zero = λ v at d. refl;
  of_put_initialiser = λ names m v e at n d h c. ends_after (expression_code names e 0 at)
      (Compute (Temporary 0) (Place v.width v.offset) (Local v.base) (Temporary 0))
      (Separator ∷ []) refl;
  of_counted = λ names m k at le n. refl;
  of_clearing = λ names m v end begin at le n d l b. refl;
  of_discarded = λ names m e at n h c. ends_after (expression_code names e 0 at) Separator [] refl;
  of_condition = λ names m e label at n h l c. ends_after (expression_code names e 0 at)
      (JumpIfZero (Temporary 0) label) [] refl;
  of_initialiser = λ names m x e at n d h c. ends_after (expression_code names e 0 at)
      (copy (Local x) (Temporary 0)) (Separator ∷ []) refl;
  of_repeated = λ names m e end begin at n h l b c. ends_after (expression_code names e 0 at)
      (JumpIfZero (Temporary 0) end) (Jump begin ∷ Separator ∷ []) refl;
  of_return = λ names m e exit at n h w c. returned_ends (returned_code names e at) exit;
}

le_next : (a b : ℕ) → (a ≡ b + 1 → ⊥) → nat_le a (b + 1) ≡ nat_le a b
le_next a b h = grind arith

lt_next : (a b : ℕ) → (b ≡ a + 1 → ⊥) → nat_lt (a + 1) b ≡ nat_lt a b
lt_next a b h = grind arith

module _ (code : List Instruction) where
  -- the instruction before a place is no call
  abbrev Cut : ℕ → Type 0
  Cut label = (q : ℕ) (i : Instruction) → q + 1 ≡ label → slice_get code q ≡ Some i
      → is_call i ≡ false

  cut_last : (at to : ℕ) (x : Instruction) (xs : List Instruction) → at + length (x ∷ xs) ≡ to
      → EndsPlain (x ∷ xs) → IsSegmentAt code at (x ∷ xs) → Cut to
  cut_last at to x [] e h s = λ q i n g. (let same : q ≡ at = omega arith in
      ap is_call (same_it i x (sym g ∙ ap (slice_get code) same ∙ s.0)) ∙ h)
  cut_last at to x (y ∷ xs) e h s = cut_last (at + 1) to y xs (omega arith) h s.1

  cut_after : (at to : ℕ) (xs : List Instruction) → at + length xs ≡ to → EndsPlain xs → Cut at
      → IsSegmentAt code at xs → Cut to
  cut_after at to [] e h c s = let same : at ≡ to = omega arith in subst Cut same c
  cut_after at to (x ∷ xs) e h c s = cut_last at to x xs e h s

  abbrev Placed : ℕ → List Instruction → Type 0
  Placed at xs = Cut at × IsSegmentAt code at xs

  places_cut : IsPlaced Placed EndsPlain Cut
  places_cut = record {
    front = λ at xs ys c. (c.0, front code at xs ys c.1);
    back = λ at to xs ys e m c.
        (cut_after at to xs e m c.0 (front code at xs ys c.1), back code at to xs ys e c.1);
    begins = λ at xs c. c.0;
    ends = λ at to xs e m c. cut_after at to xs e m c.0 c.1;
  }

  -- a region begins and ends at such places
  abbrev IsCut : Region → Type 0
  IsCut r = Cut r.begin × Cut r.end

  regions_cut : HoldsOfPieces (λ at xs rs. AllByRecursion IsCut rs) Placed Cut (λ label. Unit {0})
      (λ names m. Unit {0}) (λ e. Unit {0}) (λ x. Unit {0})
  regions_cut = record {
    none = λ at. tt;
    both = λ at to xs ys rs qs e h k. all_append IsCut rs qs h k;
    of_separator = λ at. tt;
    of_jump = λ at label l. tt;
    of_unwind = λ at label l. tt;
    of_landing = λ names m begin end at f le n o b t l. ((b, t), tt);
    of_finally = λ k begin at o b t. ((b, t), tt);
    of_zeroed = λ x at d. tt;
    of_put_zero = λ v at d. tt;
    of_put_initialiser = λ names m v e at n d h c. tt;
    of_counted = λ names m k at le n. tt;
    of_clearing = λ names m v end begin at le n d l b. tt;
    of_discarded = λ names m e at n h c. tt;
    of_condition = λ names m e label at n h l c. tt;
    of_initialiser = λ names m x e at n d h c. tt;
    of_repeated = λ names m e end begin at n h l b c. tt;
    of_return = λ names m e exit at n h w c. tt;
  }

  statements_cut : (ss : Statements) (scope : LoweringContext) (at : ℕ)
      → WaysHave Cut (λ label. Unit {0}) scope
      → Placed at (statements_code scope ss at) → AllByRecursion IsCut (statements_regions ss at)
  statements_cut ss scope at w c =
      statements_every (λ at xs rs. AllByRecursion IsCut rs) Placed EndsPlain Cut
      (λ label. Unit {0})
      (λ names m. Unit {0}) (λ e. Unit {0}) (λ e. Unit {0}) (λ x. Unit {0})
      (neutral_of EndsPlain pieces_end) places_cut (λ names m k le n. tt) regions_cut ss scope at
      (statements_notes ss) (omega arith) tt w (statements_have (λ e. Unit {0}) (λ e. Unit {0})
      (λ x. Unit {0}) (λ e. tt) (λ e. tt) (λ x. tt) ss) c

  -- a region that begins and ends elsewhere holds a place and the next one, or neither
  same_hold : (label : ℕ) (r : Region) → (r.begin ≡ label + 1 → ⊥) → (r.end ≡ label + 1 → ⊥)
      → holds (label + 1) r ≡ holds label r
  same_hold label r b e = λ i. le_next r.begin label b i && lt_next label r.end e i

  all_hold : (label : ℕ) (i : Instruction) → slice_get code label ≡ Some i → is_call i ≡ true
      → (rs : List Region) → AllByRecursion IsCut rs
      → AllByRecursion (λ (r : Region). holds (label + 1) r ≡ holds label r) rs
  all_hold label i g c [] h = tt
  all_hold label i g c (r ∷ rs) h = (
    same_hold label r (λ e. differ (sym (h.0.0 label i (sym e) g) ∙ c))
        (λ e. differ (sym (h.0.1 label i (sym e) g) ∙ c)),
    all_hold label i g c rs h.1,
  )

-- ---- whole bodies

-- at a call a region holds the next instruction too, or neither, and there is one
pub record CallsStay (b : LinearBody) : Type 0 where
  pub within : (label : ℕ) (i : Instruction) → slice_get b.code label ≡ Some i → is_call i ≡ true
      → label + 1 < length b.code
  pub hold : (label : ℕ) (i : Instruction) → slice_get b.code label ≡ Some i → is_call i ≡ true
      → AllByRecursion (λ (r : Region). holds (label + 1) r ≡ holds label r) b.regions

filter_stays : (owner : Owner) (names : Names) (e : Expression)
    → CallsStay (filter_funclet owner names e).body
filter_stays owner names e =
    let code = (filter_funclet owner names e).body.code in
    let plain = ends_after (expression_code names e 0 0) (Return (Temporary 0)) [] refl in
    record {
      within = λ label i g c. call_within code label i plain g c;
      hold = λ label i g c. tt;
    }

-- the code of statements from a place on, and an end with no call
statements_stay : (ss : Statements) (scope : LoweringContext) (b : LinearBody) (at : ℕ)
    (i : Instruction) (is : List Instruction) → EndsPlain b.code → Cut b.code at
    → IsSegmentAt b.code at (statements_code scope ss at ++ i ∷ is)
    → b.regions ≡ statements_regions ss at
    → WaysHave (Cut b.code) (λ label. Unit {0}) scope → CallsStay b
statements_stay ss scope b at i is ends begins whole regions w =
    let code = statements_code scope ss at in
    let cut = statements_cut b.code ss scope at w
    (begins, front b.code at code (i ∷ is) whole) in
    let all = subst (λ (rs : List Region). AllByRecursion (IsCut b.code) rs) (sym regions) cut in
    record {
      within = λ label j g c. call_within b.code label j ends g c;
      hold = λ label j g c. all_hold b.code label j g c b.regions all;
    }

begin_ends : (part : Option DataPart) (x : ℕ) → EndsPlain (finally_begin part x)
begin_ends None x = refl
begin_ends (Some p) x = refl

block_stays : (owner : Owner) (names : Names) (last : Statements)
    → CallsStay (finally_funclet owner names last).body
block_stays owner names last =
    let b = (finally_funclet owner names last).body in
    let begins = finally_begin names.part names.free in
    let code = statements_code (finally_scope names) last 3 in
    let returns = Return (Local names.free) in
    let three = begin_three names.part names.free in
    statements_stay last (finally_scope names) b 3 returns []
    (ends_both begins (code ++ returns ∷ []) (begin_ends names.part names.free)
    (ends_after code returns [] refl))
    (cut_after b.code 0 3 begins (omega arith) (begin_ends names.part names.free)
    (λ q j n g. absurd (omega arith))
    (front b.code 0 begins (code ++ returns ∷ []) (whole_is_at b.code)))
    (back b.code 0 3 begins (code ++ returns ∷ []) (omega arith) (whole_is_at b.code)) refl
    (record { exit = tt; loop_end = tt; loop_next = tt; leave = tt })

separators_end : (n : ℕ) → EndsPlain (Separator ∷ replicate n Separator)
separators_end zero = refl
separators_end (suc n) = separators_end n

bring_ends : (base : ℕ) (ps : List StackedParameter) → EndsPlain (bring_code base ps)
bring_ends base [] = tt
bring_ends base (p ∷ []) = refl
bring_ends base (p ∷ q ∷ ps) = bring_ends base (q ∷ ps)

open_ends : (d : Option DataFrame) → EndsPlain (open_code d)
open_ends None = tt
open_ends (Some d) = of d.parameters
  where
    of : (ps : List StackedParameter) → EndsPlain (Compute (Local d.base) (Allocate d.size)
        (Local d.base) (Local d.base) ∷ bring_code d.base ps)
    of [] = refl
    of (p ∷ ps) = bring_ends d.base (p ∷ ps)

close_ends : (d : Option DataFrame)
    → EndsPlain (constant 0 0 ∷ (close_code d ++ Return (Temporary 0) ∷ []))
close_ends None = refl
close_ends (Some d) = refl

function_stays : (f : Function) → CallsStay (lowered_function f).body
function_stays f =
    let b = (lowered_function f).body in
    let first = function_begin f in
    let code = function_body_code f in
    let l = begin_length f in
    let begins = ends_both (first_separators f) (open_code f.data_frame)
    (separators_end (surplus f + asking f)) (open_ends f.data_frame) in
    let whole = subst (λ is. IsSegmentAt b.code 0 is) (sym (code_is f)) (whole_is_at b.code) in
    statements_stay f.body (scope_of f) b (body_start f) (constant 0 0)
    (close_code f.data_frame ++ Return (Temporary 0) ∷ [])
    (subst EndsPlain (code_is f) (ends_both (first ++ code) (function_end f)
    (ends_both first code begins
    (statements_any (λ at xs rs. EndsPlain xs) pieces_end f.body (scope_of f) (body_start f)))
    (close_ends f.data_frame)))
    (cut_after b.code 0 (body_start f) first (omega arith) begins
    (λ q j n g. absurd (omega arith))
    (front b.code 0 first code (front b.code 0 (first ++ code) (function_end f) whole)))
    (body_at f) refl
    (record { exit = tt; loop_end = tt; loop_next = tt; leave = tt })

pub calls_stay : (program : Program) (name : BodyName) (b : LinearBody)
    → body_of (lowered program) name ≡ Some b → CallsStay b
calls_stay = every_body CallsStay filter_stays block_stays function_stays

-- tests that agree leave the same of a list
filter_same : {X : Type 0} (p q : X → Bool) (xs : List X)
    → AllByRecursion (λ (x : X). p x ≡ q x) xs → filter p xs ≡ filter q xs
filter_same p q [] h = refl
filter_same p q (x ∷ xs) h =
    let r = filter_same p q xs h.1 in
    λ i. cond (h.0 i) (x ∷ r i) (r i)

pub lowered_is_apart : LoweredIsApart
lowered_is_apart program name b e =
    let stay = calls_stay program name b e in
    record {
      within = stay.within;
      regions = λ label i g c. filter_same (holds (label + 1)) (holds label) b.regions
          (stay.hold label i g c);
    }
