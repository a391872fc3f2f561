-- In lowered code the label of each local unwind is an instruction of the body: after each
-- statement there is one.
use Rattle.std.proofs.Common.{◌≡◌, ℕ, ◌+◌, ◌<◌, List, [], ◌∷◌, ◌++◌, length, arith, length-append}
use Rattle.std.specs.List.{AllByRecursion}
use Rattle.std.specs.Prelude.{false, slice_get, Some}
use Rattle.c_checked.specs.declared.function.DataPart.{DataPart}
use Rattle.seh_ir.specs.Funclets.{finally_begin}
use Rattle.seh_ir.specs.Lowered.{body_start}
use Rattle.seh_ir.specs.Statements.{reset_code}
use Rattle.lowering_invariants.proofs.Places.DepthStatements.{begin_three}
use Rattle.std.specs.Prelude.{Option, None}
use Rattle.std.proofs.Common.{ap}
use Rattle.lowering_invariants.specs.Words.{Expression, Function, Statements, Local, Temporary, Instruction, statements_size, statements_notes, Owner, Names, LoweringContext, finally_scope, expression_code, statements_code, finally_funclet, scope_of, lowered_function, runs_blocks, LoweredStaysInside, filter_funclet}
use Rattle.linear_code.specs.declared.instruction.Instruction.TheVariants as instructions
use Rattle.lowering_invariants.proofs.Lemmas.{statements_length, statements_have, WaysHave, IsPlaced, any_neutral, statements_every, all_append, HoldsOfInstructions, all_pieces}
use Rattle.lowering_invariants.proofs.EveryBody.{every_body}
use Rattle.lowering_invariants.proofs.Stacks.StackTargets.{all_at}
use Rattle.lowering_invariants.specs.UnwindLabels.{StaysInside}
use Rattle.lowering_invariants.proofs.SeparatorCounts.FirstSeparators.{open_every, function_begin, function_body_code, function_end, begin_every, end_every, begin_length, end_length, code_is, code_every}
use Rattle.lowering_invariants.proofs.Regions.NoBlocks.{RunNoBlocks, expression_no_blocks}

-- ---- so many instructions

module _ (n : ℕ) where
  -- a local unwind goes to one of them
  abbrev GoesIn : Instruction → Type 0
  GoesIn (instructions.LocalUnwind label) = label < n
  GoesIn i = Unit {0}

  abbrev AllGoIn : List Instruction → Type 0
  AllGoIn is = AllByRecursion GoesIn is

  append : (xs ys : List Instruction) → AllGoIn xs → AllGoIn ys → AllGoIn (xs ++ ys)
  append xs ys h k = all_append GoesIn xs ys h k

  no_block_goes_in : (i : Instruction) → runs_blocks i ≡ false → GoesIn i
  no_block_goes_in (instructions.LocalUnwind label) e = absurd (cc)
  no_block_goes_in i e = tt

  no_blocks_go_in : (is : List Instruction) → RunNoBlocks is → AllGoIn is
  no_blocks_go_in [] h = tt
  no_blocks_go_in (i ∷ is) h = (no_block_goes_in i h.0, no_blocks_go_in is h.1)

  -- ---- statements, with an instruction after them

  abbrev IsBefore : ℕ → List Instruction → Type 0
  IsBefore at xs = at + length xs < n

  front_before : (at : ℕ) (xs ys : List Instruction) → IsBefore at (xs ++ ys) → IsBefore at xs
  front_before at xs ys c = let l = length-append xs ys in omega arith

  back_before : (at to : ℕ) (xs ys : List Instruction) → at + length xs ≡ to
      → IsBefore at (xs ++ ys) → IsBefore to ys
  back_before at to xs ys e c = let l = length-append xs ys in omega arith

  places_before : IsPlaced IsBefore (λ xs. Unit {0}) (λ label. label < n)
  places_before = record {
    front = front_before;
    back = λ at to xs ys e m c. back_before at to xs ys e c;
    begins = λ at xs c. omega arith;
    ends = λ at to xs e m c. omega arith;
  }

  reset_goes_in : (part : Option DataPart) → GoesIn (reset_code part)
  reset_goes_in None = tt
  reset_goes_in (Some p) = tt

  instructions_go_in : HoldsOfInstructions GoesIn (λ label. label < n) (λ label. label < n)
      (λ names m. Unit {0}) (λ e. Unit {0}) (λ x. Unit {0})
  instructions_go_in = record {
    of_value = λ names m e at k h. no_blocks_go_in (expression_code names e 0 at)
        (expression_no_blocks names e 0 at);
    of_constant = tt;
    of_zeroed = λ x d. tt;
    of_kept = λ x d. tt;
    of_separator = tt;
    of_jump = λ label l. tt;
    of_test = λ label l. tt;
    of_unwind = λ label l. l;
    of_exit_jump = λ label l. tt;
    of_exit = λ label l. l;
    of_put = λ v d. tt;
    of_counted = λ names m k le n. tt;
    of_rest_test = λ names m label le n l. tt;
    of_cleared = λ names m v le n d. tt;
    of_reset = λ names m le n. reset_goes_in names.part;
    of_landing = λ names m le k. tt;
    of_finally = λ k. tt;
  }

  statements_go_in : (ss : Statements) (scope : LoweringContext) (at : ℕ)
      → WaysHave (λ label. label < n) (λ label. label < n) scope
      → IsBefore at (statements_code scope ss at) → AllGoIn (statements_code scope ss at)
  statements_go_in ss scope at w c =
      statements_every (λ at xs rs. AllGoIn xs) IsBefore (λ xs. Unit {0}) (λ label. label < n)
      (λ label. label < n) (λ names m. Unit {0}) (λ e. Unit {0}) (λ e. Unit {0}) (λ x. Unit {0})
      any_neutral places_before (λ names m k le h. tt)
      (all_pieces GoesIn IsBefore (λ label. label < n) (λ label. label < n) (λ names m. Unit {0})
      (λ e. Unit {0}) (λ x. Unit {0}) instructions_go_in) ss scope at (statements_notes ss)
      (omega arith) tt w (statements_have (λ e. Unit {0}) (λ e. Unit {0}) (λ x. Unit {0}) (λ e. tt)
      (λ e. tt) (λ x. tt) ss) c

-- ---- whole bodies

stays : (is : List Instruction) → AllGoIn (length is) is → (label to : ℕ)
    → slice_get is label ≡ Some (instructions.LocalUnwind to) → to < length is
stays is h label to e = all_at (GoesIn (length is)) is label (instructions.LocalUnwind to) h e

filter_stays : (owner : Owner) (names : Names) (e : Expression)
    → StaysInside (filter_funclet owner names e).body
filter_stays owner names e =
    let code = (filter_funclet owner names e).body.code in
    stays code (append (length code) (expression_code names e 0 0)
    (instructions.Return (Temporary 0) ∷ []) (no_blocks_go_in (length code)
    (expression_code names e 0 0) (expression_no_blocks names e 0 0)) (tt, tt))

begin_goes_in : (n : ℕ) (part : Option DataPart) (x : ℕ) → AllGoIn n (finally_begin part x)
begin_goes_in n None x = (tt, (tt, (tt, tt)))
begin_goes_in n (Some p) x = (tt, (tt, (tt, tt)))

block_stays : (owner : Owner) (names : Names) (last : Statements)
    → StaysInside (finally_funclet owner names last).body
block_stays owner names last =
    let code = (finally_funclet owner names last).body.code in
    let scope = finally_scope names in
    let ends = instructions.Return (Local names.free) ∷ [] in
    let begins = finally_begin names.part names.free in
    let body = statements_code scope last 3 in
    let n = length-append body ends in
    let m = length-append begins (body ++ ends) in
    let three = begin_three names.part names.free in
    stays code (append (length code) begins (body ++ ends)
    (begin_goes_in (length code) names.part names.free)
    (append (length code) body ends
    (statements_go_in (length code) last scope 3
    (record { exit = tt; loop_end = tt; loop_next = tt; leave = tt }) (omega arith)) (tt, tt)))

function_stays : (f : Function) → StaysInside (lowered_function f).body
function_stays f =
    let code = (lowered_function f).body.code in
    let scope = scope_of f in
    let at = body_start f in
    let first = function_begin f in
    let body = function_body_code f in
    let m = length-append first body in
    let n = length-append (first ++ body) (function_end f) in
    let same = ap length (code_is f) in
    let k = begin_length f in
    let e = end_length f in
    let l = statements_length scope f.body at in
    stays code (code_every (GoesIn (length code)) f
    (begin_every (GoesIn (length code)) tt f
    (open_every (GoesIn (length code)) f.data_frame (λ base size. tt) (λ base p. tt)))
    (statements_go_in (length code) f.body scope at
    (record {
      exit = (let z : at + statements_size f.body + 1 < length code = omega arith in z);
      loop_end = tt;
      loop_next = tt;
      leave = tt;
    }) (omega arith))
    (end_every (GoesIn (length code)) tt (λ base. tt) tt f))

pub lowered_stays_inside : LoweredStaysInside
lowered_stays_inside = every_body StaysInside filter_stays block_stays function_stays
