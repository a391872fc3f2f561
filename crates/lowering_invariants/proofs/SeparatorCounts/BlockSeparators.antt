-- In lowered code an instruction that does nothing is after each that runs `__finally` blocks.
use Rattle.std.proofs.Common.{◌≡◌, ℕ, zero, suc, ◌+◌, List, [], ◌∷◌, ◌++◌, refl, sym, ap, subst, ◌∙◌, arith}
use Rattle.std.specs.Prelude.{true, false, slice_get, Option, Some, None}
use Rattle.c_checked.specs.declared.function.DataPart.{DataPart}
use Rattle.seh_ir.specs.Lowered.{body_start}
use Rattle.seh_ir.specs.Funclets.{finally_begin}
use Rattle.seh_ir.specs.Statements.{put_code, reset_code}
use Rattle.lowering_invariants.specs.Words.{Expression, Function, Statements, Local, Temporary, Instruction, JumpIfZero, Separator, Owner, Names, Way, Nowhere, Jumps, LoweringContext, finally_scope, copy, expression_code, return_code, returned_code, repeated, statements_code, finally_funclet, scope_of, lowered_function, runs_blocks, IsFollowed, LoweredIsFollowed, filter_funclet}
use Rattle.linear_code.specs.declared.instruction.Instruction.TheVariants as instructions
use Rattle.lowering_expressions.specs.declared.scope.Way.TheVariants.{Unwinds}
use Rattle.lowering_invariants.proofs.EveryBody.{every_body}
use Rattle.lowering_invariants.proofs.Stacks.StackTargets.{same_it}
use Rattle.lowering_invariants.proofs.SeparatorCounts.FirstSeparators.{open_every, function_begin, function_body_code, function_end, begin_every, end_every, code_is}
use Rattle.lowering_invariants.proofs.Regions.NoBlocks.{RunsNoBlock, RunNoBlocks, expression_no_blocks}
use Rattle.lowering_invariants.proofs.Lemmas.{HoldsOfAnyPieces, statements_any}

no : {X : Type 0} → false ≡ true → X
no e = cc

-- ---- lists of instructions

abbrev head_of : List Instruction → Option Instruction
head_of [] = None
head_of (i ∷ is) = Some i

-- in the list itself, so that nothing depends on what it is before
abbrev Follows : List Instruction → Type 0
Follows [] = Unit {0}
Follows (i ∷ is) = (runs_blocks i ≡ true → head_of is ≡ Some Separator) × Follows is

head_kept : (xs ys : List Instruction) → head_of xs ≡ Some Separator
    → head_of (xs ++ ys) ≡ Some Separator
head_kept [] ys e = absurd (cc)
head_kept (x ∷ xs) ys e = e

append : (xs ys : List Instruction) → Follows xs → Follows ys → Follows (xs ++ ys)
append [] ys h k = k
append (x ∷ xs) ys h k = ((λ e. head_kept xs ys (h.0 e)), append xs ys h.1 k)

no_blocks_follow : (is : List Instruction) → RunNoBlocks is → Follows is
no_blocks_follow [] h = tt
no_blocks_follow (i ∷ is) h = ((λ e. no (sym h.0 ∙ e)), no_blocks_follow is h.1)

head_there : (is : List Instruction) → head_of is ≡ Some Separator → slice_get is 0 ≡ Some Separator
head_there [] e = absurd (cc)
head_there (i ∷ is) e = e

next_there : (is : List Instruction) (label : ℕ) (i : Instruction) → Follows is
    → slice_get is label ≡ Some i → runs_blocks i ≡ true → slice_get is (label + 1) ≡ Some Separator
next_there [] label i h e c = absurd (cc)
next_there (j ∷ is) zero i h e c = head_there is (h.0 (ap runs_blocks (same_it j i e) ∙ c))
next_there (j ∷ is) (suc label) i h e c = let s : suc label + 1 ≡ suc (label + 1) = omega arith in
    ap (slice_get (j ∷ is)) s ∙ next_there is label i h.1 e c

-- ---- pieces

module _ (names : Names) where
  used : (e : Expression) (at : ℕ) (rest : List Instruction) → Follows rest
      → Follows (expression_code names e 0 at ++ rest)
  used e at rest h = append (expression_code names e 0 at) rest
      (no_blocks_follow (expression_code names e 0 at) (expression_no_blocks names e 0 at)) h

  returned : (e : Option Expression) (at : ℕ) (rest : List Instruction) → Follows rest
      → Follows (returned_code names e at ++ rest)
  returned None at rest h = ((λ x. no x), h)
  returned (Some e) at rest h = used e at rest h

return_follows : (w : Way) → Follows (return_code w)
return_follows Nowhere = ((λ x. no x), ((λ x. no x), tt))
return_follows (Jumps label) = ((λ x. no x), ((λ x. no x), tt))
return_follows (Unwinds label) = ((λ x. refl), ((λ x. no x), tt))

reset_plain : (part : Option DataPart) → runs_blocks (reset_code part) ≡ false
reset_plain None = refl
reset_plain (Some p) = refl

-- what a `__finally` block begins with
begin_follows : (part : Option DataPart) (x : ℕ) → Follows (finally_begin part x)
begin_follows None x = ((λ e. no e), ((λ e. no e), ((λ e. no e), tt)))
begin_follows (Some p) x = ((λ e. no e), ((λ e. no e), ((λ e. no e), tt)))

pieces_follow : HoldsOfAnyPieces (λ at xs rs. Follows xs)
pieces_follow = record {
  none = λ at. tt;
  both = λ at to xs ys rs qs e h k. append xs ys h k;
  of_separator = λ at. ((λ x. no x), tt);
  of_jump = λ at label l. ((λ x. no x), tt);
  of_unwind = λ at label l. ((λ x. refl), ((λ x. no x), tt));
  of_landing = λ names m begin end at f le n o b t l.
      ((λ x. no x), ((λ x. no x), ((λ x. no (sym (reset_plain names.part) ∙ x)), tt)));
  of_finally = λ k begin at o b t. ((λ x. no x), ((λ x. refl), ((λ x. no x), tt)));
  of_zeroed = λ x at d. ((λ x. no x), tt);
  of_put_zero = λ v at d. ((λ x. no x), ((λ x. no x), ((λ x. no x), tt)));
  of_put_initialiser = λ names m v e at n d h c. used names e at (put_code v)
      ((λ x. no x), ((λ x. no x), tt));
  of_counted = λ names m k at le n. ((λ x. no x), tt);
  of_clearing = λ names m v end begin at le n d l b.
      ((λ x. no x), ((λ x. no x), ((λ x. no x), tt)));
  of_discarded = λ names m e at n h c. used names e at (Separator ∷ []) ((λ x. no x), tt);
  of_condition = λ names m e label at n h l c. used names e at (JumpIfZero (Temporary 0) label ∷ [])
      ((λ x. no x), tt);
  of_initialiser = λ names m x e at n d h c. used names e at
      (copy (Local x) (Temporary 0) ∷ Separator ∷ []) ((λ x. no x), ((λ x. no x), tt));
  of_repeated = λ names m e end begin at n h l b c. used names e at (repeated end begin)
      ((λ x. no x), ((λ x. no x), ((λ x. no x), tt)));
  of_return = λ names m e exit at n h w c. returned names e at (return_code exit)
      (return_follows exit);
}

statements_follow : (ss : Statements) (scope : LoweringContext) (at : ℕ)
    → Follows (statements_code scope ss at)
statements_follow = statements_any (λ at xs rs. Follows xs) pieces_follow

-- ---- whole bodies

filter_followed : (owner : Owner) (names : Names) (e : Expression)
    → IsFollowed (filter_funclet owner names e).body
filter_followed owner names e label i = next_there (filter_funclet owner names e).body.code label i
    (used names e 0 (instructions.Return (Temporary 0) ∷ []) ((λ x. no x), tt))

block_followed : (owner : Owner) (names : Names) (last : Statements)
    → IsFollowed (finally_funclet owner names last).body
block_followed owner names last label i =
    next_there (finally_funclet owner names last).body.code label i
    (append (finally_begin names.part names.free)
    (statements_code (finally_scope names) last 3 ++ instructions.Return (Local names.free) ∷ [])
    (begin_follows names.part names.free)
    (append (statements_code (finally_scope names) last 3)
    (instructions.Return (Local names.free) ∷ []) (statements_follow last (finally_scope names) 3)
    ((λ x. no x), tt)))

function_followed : (f : Function) → IsFollowed (lowered_function f).body
function_followed f label i =
    next_there (lowered_function f).body.code label i
    (subst Follows (code_is f) (append (function_begin f ++ function_body_code f) (function_end f)
    (append (function_begin f) (function_body_code f)
    (no_blocks_follow (function_begin f) (begin_every RunsNoBlock refl f
    (open_every RunsNoBlock f.data_frame (λ base size. refl) (λ base p. refl))))
    (statements_follow f.body (scope_of f) (body_start f)))
    (no_blocks_follow (function_end f)
    (end_every RunsNoBlock refl (λ base. refl) refl f))))

pub lowered_is_followed : LoweredIsFollowed
lowered_is_followed = every_body IsFollowed filter_followed block_followed function_followed
