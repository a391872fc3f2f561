-- Each region of a body is a range of its instructions, none of which is cold.
use Rattle.std.proofs.Common.{◌≡◌, ℕ, zero, suc, ◌+◌, ◌<◌, ◌≤◌, Bool, true, false, ltb, List, [], ◌∷◌, ◌++◌, length, map, Option, Some, None, refl, sym, ap, subst, ◌∙◌, arith, length-append, inl, inr}
use Rattle.std.specs.Prelude.{◌&&◌, ◌||◌, slice_get}
use Rattle.std.specs.List.{AllByRecursion}
use Rattle.std.proofs.lemmas.Bool.{and_parts, lt-leb, false≢true}
use Rattle.image_tables.specs.Words.{Program, Statements, Function, Instruction, LabelRange, Region, Local, Temporary, LinearBody, LinearFunction, LinearFunclet, Names, Owner, statements_regions, finally_funclet, lowered, scope_of, lowered_function, is_cold, all_spare, IsRange, HasRanges, statements_notes, finally_scope, LoweredHasRegions}
use Rattle.c_checked.specs.declared.function.DataPart.{DataPart}
use Rattle.linear_code.specs.declared.instruction.Instruction.TheVariants as instructions
use Rattle.linear_machine.specs.Frames.{FunctionBody, FuncletBody, function_body, funclet_body}
use Rattle.lowering_expressions.specs.declared.scope.LoweringContext.{LoweringContext}
use Rattle.lowering_expressions.specs.Expressions.{constant}
use Rattle.lowering_invariants.specs.ColdParts.{IsApart, IsColdPart, HasColdParts}
use Rattle.lowering_invariants.specs.ReturnRegions.{is_call}
use Rattle.lowering_invariants.proofs.ColdCode.ColdParts.{lowered_has_cold_parts}
use Rattle.seh_ir.specs.Funclets.{finally_begin}
use Rattle.seh_ir.specs.Lowered.{first_separators, open_code, close_code, body_start}
use Rattle.seh_ir.proofs.FunctionCodes.{open_length}
use Rattle.seh_ir.proofs.Lowering.{length_first}
use Rattle.seh_ir.specs.Statements.{statements_code}
use Rattle.seh_ir.proofs.StatementParts.{statements_have}
use Rattle.seh_ir.proofs.EveryStatement.{WaysHave, any_neutral, IsPlaced, HoldsOfPieces, statements_every}
use Rattle.template_code.proofs.ColdParts.{cold_beyond}
use Rattle.image_link.specs.Routines.{is_spare}
use Rattle.image_tables.proofs.Lemmas.{all_append}
use Rattle.image_tables.proofs.Lookups.{some_same, none_some}
use Rattle.seh_ir.proofs.EveryFunclet.{funclets_any}

-- a range of so many instructions
record IsSpan (n : ℕ) (r : Region) : Type 0 where
  some : r.begin < r.end
  inside : r.end ≤ n

abbrev HasSpans : LinearBody → Type 0
HasSpans b = AllByRecursion (IsSpan (length b.code)) b.regions

-- ---- statements in a body of so many instructions

module _ (n : ℕ) where
  -- code that ends in it
  abbrev IsBefore : ℕ → List Instruction → Type 0
  IsBefore at xs = at + length xs ≤ n

  front_before : (at : ℕ) (xs ys : List Instruction) → IsBefore at (xs ++ ys) → IsBefore at xs
  front_before at xs ys c = let l = length-append xs ys in omega arith

  back_before : (at to : ℕ) (xs ys : List Instruction) → at + length xs ≡ to
      → IsBefore at (xs ++ ys) → IsBefore to ys
  back_before at to xs ys e c = let l = length-append xs ys in omega arith

  places_before : IsPlaced IsBefore (λ xs. Unit {0}) (λ label. label ≤ n)
  places_before = record {
    front = front_before;
    back = λ at to xs ys e m c. back_before at to xs ys e c;
    begins = λ at xs c. omega arith;
    ends = λ at to xs e m c. omega arith;
  }

  pieces_range : HoldsOfPieces (λ at xs rs. AllByRecursion (IsSpan n) rs) IsBefore
      (λ label. label ≤ n)
      (λ label. Unit {0}) (λ names m. Unit {0}) (λ e. Unit {0}) (λ x. Unit {0})
  pieces_range = record {
    none = λ at. tt;
    both = λ at to xs ys rs qs e h k. all_append (IsSpan n) rs qs h k;
    of_separator = λ at. tt;
    of_jump = λ at label l. tt;
    of_unwind = λ at label l. tt;
    of_landing = λ names m begin end at f le k o b t l.
        (record { some = omega arith; inside = omega arith }, tt);
    of_finally = λ k begin at o b t. (record { some = omega arith; inside = omega arith }, tt);
    of_zeroed = λ x at d. tt;
    of_discarded = λ names m e at k h c. tt;
    of_condition = λ names m e label at k h l c. tt;
    of_initialiser = λ names m x e at k d h c. tt;
    of_put_zero = λ v at d. tt;
    of_put_initialiser = λ names m v e at k d h c. tt;
    of_counted = λ names m n at le k. tt;
    of_clearing = λ names m v end begin at le k d l b. tt;
    of_repeated = λ names m e end begin at k h l b c. tt;
    of_return = λ names m e exit at k h w c. tt;
  }

  statements_range : (ss : Statements) (scope : LoweringContext) (at : ℕ)
      → WaysHave (λ label. label ≤ n) (λ label. Unit {0}) scope
      → IsBefore at (statements_code scope ss at)
      → AllByRecursion (IsSpan n) (statements_regions ss at)
  statements_range ss scope at w c =
      statements_every (λ at xs rs. AllByRecursion (IsSpan n) rs) IsBefore (λ xs. Unit {0})
      (λ label. label ≤ n) (λ label. Unit {0}) (λ names m. Unit {0}) (λ e. Unit {0}) (λ e. Unit {0})
      (λ x. Unit {0}) any_neutral places_before (λ names m k le h. tt) pieces_range ss scope at
      (statements_notes ss) (omega arith) tt w (statements_have (λ e. Unit {0}) (λ e. Unit {0})
      (λ x. Unit {0}) (λ e. tt) (λ e. tt) (λ x. tt) ss) c

-- ---- bodies

function_spans : (f : Function) → HasSpans (lowered_function f).body
function_spans f =
    let code = statements_code (scope_of f) f.body (body_start f) in
    let opens = open_code f.data_frame in
    let last = constant 0 0 ∷ (close_code f.data_frame ++ instructions.Return (Temporary 0) ∷ []) in
    let l = length-append (first_separators f) (opens ++ (code ++ last)) in
    let a = length-append opens (code ++ last) in
    let b = length-append code last in
    let s = length_first f in
    let o = open_length f.data_frame in
    statements_range (length (lowered_function f).body.code) f.body (scope_of f) (body_start f)
    (record { exit = tt; loop_end = tt; loop_next = tt; leave = tt }) (omega arith)

-- three instructions are before a `__finally` block's statements
finally_begins : (o : Option DataPart) (flag : ℕ) → length (finally_begin o flag) ≡ 3
finally_begins None flag = refl
finally_begins (Some part) flag = refl

finally_spans : (owner : Owner) (names : Names) (last : Statements)
    → HasSpans (finally_funclet owner names last).body
finally_spans owner names last =
    let begins = finally_begin names.part names.free in
    let code = statements_code (finally_scope names) last 3 in
    let end = instructions.Return (Local names.free) ∷ [] in
    let l = length-append begins (code ++ end) in
    let a = length-append code end in
    let b = finally_begins names.part names.free in
    statements_range (length (begins ++ (code ++ end))) last (finally_scope names) 3
    (record { exit = tt; loop_end = tt; loop_next = tt; leave = tt }) (omega arith)

-- ---- with what is known of cold parts

-- the first region, and the others
first_apart : (cs : List LabelRange) (r : Region) (rs : List Region)
    → AllByRecursion (λ (c : LabelRange). AllByRecursion (IsApart c) (r ∷ rs)) cs
    → AllByRecursion (λ (c : LabelRange). IsApart c r) cs
first_apart [] r rs all = tt
first_apart (c ∷ cs) r rs all = (all.0.0, first_apart cs r rs all.1)

others_apart : (cs : List LabelRange) (r : Region) (rs : List Region)
    → AllByRecursion (λ (c : LabelRange). AllByRecursion (IsApart c) (r ∷ rs)) cs
    → AllByRecursion (λ (c : LabelRange). AllByRecursion (IsApart c) rs) cs
others_apart [] r rs all = tt
others_apart (c ∷ cs) r rs all = (all.0.1, others_apart cs r rs all.1)

-- nothing of a region is cold
hot_in : (cs : List LabelRange) (r : Region) (label : ℕ)
    → AllByRecursion (λ (c : LabelRange). IsApart c r) cs → r.begin ≤ label → label ≤ r.end
    → is_cold cs label ≡ false
hot_in [] r label all low high = refl
hot_in (c ∷ cs) r label all low high = by all.0 (hot_in cs r label all.1 low high)
  where
    by : IsApart c r → is_cold cs label ≡ false → is_cold (c ∷ cs) label ≡ false
    by (inl lt) more =
        ap (λ (b : Bool). (b && ltb label c.end) || is_cold cs label)
        (lt-leb c.begin label (omega arith)) ∙ more
    by (inr le) more = cold_beyond c cs label (omega arith) ∙ more

ranges_by : (b : LinearBody) (rs : List Region)
    → AllByRecursion (λ (c : LabelRange). AllByRecursion (IsApart c) rs) b.cold
    → AllByRecursion (IsSpan (length b.code)) rs → AllByRecursion (IsRange b) rs
ranges_by b [] apart spans = tt
ranges_by b (r ∷ rs) apart spans = (
  record {
    some = spans.0.some;
    inside = spans.0.inside;
    hot = λ label low high. hot_in b.cold r label (first_apart b.cold r rs apart) low high;
  },
  ranges_by b rs (others_apart b.cold r rs apart) spans.1,
)

parts_apart : (b : LinearBody) (cs : List LabelRange) → AllByRecursion (IsColdPart b) cs
    → AllByRecursion (λ (c : LabelRange). AllByRecursion (IsApart c) b.regions) cs
parts_apart b [] all = tt
parts_apart b (c ∷ cs) all = (all.0.regions, parts_apart b cs all.1)

-- a call isn't spared by a leaf function
call_unspared : (n : ℕ) (i : Instruction) → is_call i ≡ true → is_spare n i ≡ false
call_unspared n (instructions.Call f first count) e = refl
call_unspared n (instructions.CallBuiltIn f first) e = refl
call_unspared n (instructions.CallFinally k) e = refl
call_unspared n (instructions.LocalUnwind label) e = refl
call_unspared n (instructions.Compute to o first second) e = absurd (false≢true e)
call_unspared n (instructions.Information to field) e = absurd (false≢true e)
call_unspared n (instructions.Landing to) e = absurd (false≢true e)
call_unspared n (instructions.Jump label) e = absurd (false≢true e)
call_unspared n (instructions.JumpIfZero slot label) e = absurd (false≢true e)
call_unspared n instructions.Separator e = absurd (false≢true e)
call_unspared n (instructions.Return from) e = absurd (false≢true e)

spare_at : (n : ℕ) (is : List Instruction) (k : ℕ) (i : Instruction) → all_spare n is ≡ true
    → slice_get is k ≡ Some i → is_spare n i ≡ true
spare_at n [] k i all e = absurd (none_some e)
spare_at n (j ∷ is) zero i all e =
    subst (λ (x : Instruction). is_spare n x ≡ true) (some_same e)
    (and_parts (is_spare n j) (all_spare n is) all).0
spare_at n (j ∷ is) (suc k) i all e =
    spare_at n is k i (and_parts (is_spare n j) (all_spare n is) all).1 e

none_cold : (b : LinearBody) (cs : List LabelRange) → AllByRecursion (IsColdPart b) cs → (n : ℕ)
    → all_spare n b.code ≡ true → cs ≡ []
none_cold b [] all n spare = refl
none_cold b (c ∷ cs) all n spare =
    let call = all.0.calls in
    let no = call_unspared n call.instruction call.call in
    let yes = spare_at n b.code call.label call.instruction spare call.there in
    absurd (false≢true (sym no ∙ yes))

ranges_of : (b : LinearBody) → HasSpans b → HasColdParts b → HasRanges b
ranges_of b spans cold = record {
  regions = ranges_by b b.regions (parts_apart b b.cold cold.parts) spans;
  spare = none_cold b b.cold cold.parts;
}

-- ---- programs

-- what holds of each by its index holds of all
all_by_index : {A : Type 0} (P : A → Type 0) (xs : List A)
    → ((k : ℕ) (x : A) → slice_get xs k ≡ Some x → P x) → AllByRecursion P xs
all_by_index P [] each = tt
all_by_index P (x ∷ xs) each = (each 0 x refl, all_by_index P xs (λ k y e. each (suc k) y e))

all_both : {A : Type 0} (P Q R : A → Type 0) (xs : List A) → ((x : A) → P x → Q x → R x)
    → AllByRecursion P xs → AllByRecursion Q xs → AllByRecursion R xs
all_both P Q R [] both h k = tt
all_both P Q R (x ∷ xs) both h k = (both x h.0 k.0, all_both P Q R xs both h.1 k.1)

functions_have : (fs : List Function) → AllByRecursion (λ (f : LinearFunction). HasSpans f.body)
    (map lowered_function fs)
functions_have [] = tt
functions_have (f ∷ fs) = (function_spans f, functions_have fs)

functions_cold : (p : Program)
    → AllByRecursion (λ (f : LinearFunction). HasColdParts f.body) (lowered p).functions
functions_cold p = all_by_index (λ (f : LinearFunction). HasColdParts f.body) (lowered p).functions
    (λ k f e. lowered_has_cold_parts p (FunctionBody k) f.body (ap function_body e))

funclets_cold : (p : Program)
    → AllByRecursion (λ (f : LinearFunclet). HasColdParts f.body) (lowered p).funclets
funclets_cold p = all_by_index (λ (f : LinearFunclet). HasColdParts f.body) (lowered p).funclets
    (λ k f e. lowered_has_cold_parts p (FuncletBody k) f.body (ap funclet_body e))

pub lowered_has_regions : LoweredHasRegions
lowered_has_regions p = record {
  functions = all_both (λ (f : LinearFunction). HasSpans f.body)
      (λ (f : LinearFunction). HasColdParts f.body) (λ (f : LinearFunction). HasRanges f.body)
      (lowered p).functions (λ f spans cold. ranges_of f.body spans cold)
      (functions_have p.functions) (functions_cold p);
  funclets = all_both (λ (f : LinearFunclet). HasSpans f.body)
      (λ (f : LinearFunclet). HasColdParts f.body) (λ (f : LinearFunclet). HasRanges f.body)
      (lowered p).funclets (λ f spans cold. ranges_of f.body spans cold)
      (funclets_any (λ f. HasSpans f.body) (λ owner names e. tt) finally_spans 0 p.functions)
      (funclets_cold p);
}
