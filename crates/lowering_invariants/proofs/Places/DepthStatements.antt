-- No temporary is held between statements, and their jumps lead to places that hold as many as they
-- leave.
use Rattle.std.proofs.Common.{◌≡◌, ℕ, zero, suc, ◌+◌, List, [], ◌∷◌, ◌++◌, length, replicate, refl, subst, arith, length-append}
use Rattle.std.specs.Prelude.{Option, Some, None}
use Rattle.c_checked.specs.declared.function.DataPart.{DataPart}
use Rattle.c_checked.specs.declared.function.StackedParameter.{StackedParameter}
use Rattle.c_checked.specs.Program.{DataFrame}
use Rattle.seh_ir.specs.Lowered.{bring_code, open_code, close_code, body_start}
use Rattle.seh_ir.specs.Funclets.{finally_begin}
use Rattle.seh_ir.specs.Statements.{put_code, landed}
use Rattle.lowering_invariants.specs.Words.{constant}
use Rattle.lowering_invariants.specs.Words.{Expression, Program, Function, surplus, asking, Statements, Local, Temporary, Instruction, JumpIfZero, Separator, LinearBody, BodyName, body_of, statements_size, statements_notes, Owner, Names, Way, Nowhere, Jumps, LoweringContext, finally_scope, copy, expression_code, return_code, returned_code, repeated, statements_code, finally_funclet, first_separators, scope_of, lowered_function, lowered, depth_at, filter_funclet}
use Rattle.linear_code.specs.declared.instruction.Instruction.TheVariants as instructions
use Rattle.lowering_expressions.specs.declared.scope.Way.TheVariants.{Unwinds}
use Rattle.lowering_invariants.proofs.Lemmas.{statements_length, statements_have, WayHas, WaysHave, IsPlaced, HoldsOfPieces, statements_every, HoldsOfAnyPieces, statements_any, neutral_of}
use Rattle.lowering_invariants.proofs.Scans.{past, past_to, past_both, Scans, scan_start, scan_front, scan_back, scan_end, scanned, AllLead, lead_both}
use Rattle.lowering_invariants.proofs.SeparatorCounts.FirstSeparators.{function_begin, function_body_code, function_end, begin_length, code_is}
use Rattle.lowering_invariants.proofs.EveryBody.{every_body}
use Rattle.lowering_invariants.proofs.Places.DepthExpressions.{expression_past, expression_leads}

-- ---- depths

return_past : (w : Way) (x : ℕ) → past (return_code w) x ≡ 0
return_past Nowhere x = refl
return_past (Jumps label) x = refl
return_past (Unwinds label) x = refl

landing_past : (part : Option DataPart) (end x : ℕ) → past (landed part end x) 0 ≡ 0
landing_past None end x = refl
landing_past (Some p) end x = refl

pieces_past : HoldsOfAnyPieces (λ at xs rs. past xs 0 ≡ 0)
pieces_past = record {
  none = λ at. refl;
  both = λ at to xs ys rs qs e h k. past_both xs ys 0 0 0 h k;
  of_separator = λ at. refl;
  of_jump = λ at label l. refl;
  of_unwind = λ at label l. refl;
  of_landing = λ names m begin end at f le n o b t l. landing_past names.part end names.free;
  of_finally = λ k begin at o b t. refl;
  of_zeroed = λ x at d. refl;
  of_put_zero = λ v at d. refl;
  of_put_initialiser = λ names m v e at n d h c. past_to (expression_code names e 0 at) _ 0 0
      (λ x. refl);
  of_counted = λ names m k at le n. refl;
  of_clearing = λ names m v end begin at le n d l b. refl;
  of_discarded = λ names m e at n h c. past_to (expression_code names e 0 at) _ 0 0 (λ x. refl);
  of_condition = λ names m e label at n h l c. past_to (expression_code names e 0 at) _ 0 0
      (λ x. refl);
  of_initialiser = λ names m x e at n d h c. past_to (expression_code names e 0 at) _ 0 0
      (λ x. refl);
  of_repeated = λ names m e end begin at n h l b c. past_to (expression_code names e 0 at) _ 0 0
      (λ x. refl);
  of_return = λ names m e exit at n h w c. past_to (returned_code names e at) (return_code exit) 0 0
      (return_past exit);
}

statements_past : (ss : Statements) (scope : LoweringContext) (at : ℕ)
    → past (statements_code scope ss at) 0 ≡ 0
statements_past = statements_any (λ at xs rs. past xs 0 ≡ 0) pieces_past

-- ---- jumps

module _ (depth : ℕ → ℕ) where
  abbrev All : ℕ → List Instruction → Type 0
  All d is = AllLead depth d is

  abbrev At : (at d : ℕ) → List Instruction → Type 0
  At at d is = Scans depth at d is

  -- what holds nothing at its ends, and leads to where nothing is held
  abbrev Led : List Instruction → Type 0
  Led is = (past is 0 ≡ 0) × All 0 is

  return_leads : (w : Way) → WayHas (λ label. depth label ≡ 1) w → All 1 (return_code w)
  return_leads Nowhere h = (tt, (tt, tt))
  return_leads (Jumps label) h = (h, (tt, tt))
  return_leads (Unwinds label) h = (h, (tt, tt))

  -- an expression, and what is after it
  value_leads : (names : Names) (e : Expression) (at : ℕ) (rest : List Instruction)
      → At at 0 (expression_code names e 0 at ++ rest) → All 1 rest
      → All 0 (expression_code names e 0 at ++ rest)
  value_leads names e at rest h k =
      lead_both depth (expression_code names e 0 at) rest 0 1 (expression_past names e 0 at)
      (expression_leads depth names e 0 at
      (scan_front depth at 0 (expression_code names e 0 at) rest h)) k

  -- and what is after it holds nothing at its end
  value_led : (names : Names) (e : Expression) (at : ℕ) (rest : List Instruction)
      → ((x : ℕ) → past rest x ≡ 0) → At at 0 (expression_code names e 0 at ++ rest) → All 1 rest
      → Led (expression_code names e 0 at ++ rest)
  value_led names e at rest p h k = (
    past_to (expression_code names e 0 at) rest 0 0 p,
    value_leads names e at rest h k,
  )

  returned_led : (names : Names) (e : Option Expression) (exit : Way) (at : ℕ)
      → WayHas (λ label. depth label ≡ 1) exit
      → At at 0 (returned_code names e at ++ return_code exit)
      → Led (returned_code names e at ++ return_code exit)
  returned_led names None exit at w h = (return_past exit 1, (tt, return_leads exit w))
  returned_led names (Some e) exit at w h = value_led names e at (return_code exit)
      (return_past exit) h (return_leads exit w)

  landing_leads : (part : Option DataPart) (end x : ℕ) → depth end ≡ 0 → Led (landed part end x)
  landing_leads None end x l = (refl, (l, (refl, (tt, tt))))
  landing_leads (Some p) end x l = (refl, (l, (refl, (tt, tt))))

  pieces_led : HoldsOfPieces (λ at xs rs. Led xs) (λ at xs. At at 0 xs) (λ label. depth label ≡ 0)
      (λ label. depth label ≡ 1) (λ names m. Unit {0}) (λ e. Unit {0}) (λ x. Unit {0})
  pieces_led = record {
    none = λ at. (refl, tt);
    both = λ at to xs ys rs qs e h k.
        (past_both xs ys 0 0 0 h.0 k.0, lead_both depth xs ys 0 0 h.0 h.1 k.1);
    of_separator = λ at. (refl, (tt, tt));
    of_jump = λ at label l. (refl, (l, tt));
    of_unwind = λ at label l. (refl, (l, (tt, tt)));
    of_landing = λ names m begin end at f le n o b t l. landing_leads names.part end names.free l;
    of_finally = λ k begin at o b t. (refl, (tt, (tt, (tt, tt))));
    of_zeroed = λ x at d. (refl, (tt, tt));
    of_put_zero = λ v at d. (refl, (tt, (tt, (tt, tt))));
    of_put_initialiser = λ names m v e at n d h c. value_led names e at (put_code v) (λ x. refl) c
        (tt, (tt, tt));
    of_counted = λ names m k at le n. (refl, (tt, tt));
    of_clearing = λ names m v end begin at le n d l b. (refl, (l, (tt, (b, tt))));
    of_discarded = λ names m e at n h c. value_led names e at (Separator ∷ []) (λ x. refl) c
        (tt, tt);
    of_condition = λ names m e label at n h l c. value_led names e at
        (JumpIfZero (Temporary 0) label ∷ []) (λ x. refl) c (l, tt);
    of_initialiser = λ names m x e at n d h c. value_led names e at
        (copy (Local x) (Temporary 0) ∷ Separator ∷ []) (λ x. refl) c (tt, (tt, tt));
    of_repeated = λ names m e end begin at n h l b c. value_led names e at (repeated end begin)
        (λ x. refl) c (l, (b, (tt, tt)));
    of_return = λ names m e exit at n h w c. returned_led names e exit at w c;
  }

  places_scanned : IsPlaced (λ at xs. At at 0 xs) (λ xs. past xs 0 ≡ 0) (λ label. depth label ≡ 0)
  places_scanned = record {
    front = λ at xs ys c. scan_front depth at 0 xs ys c;
    back = λ at to xs ys e m c. scan_back depth at to 0 0 xs ys e m c;
    begins = λ at xs c. scan_start depth at 0 xs c;
    ends = λ at to xs e m c. scan_end depth at to 0 0 xs e m c;
  }

  statements_lead : (ss : Statements) (scope : LoweringContext) (at : ℕ)
      → WaysHave (λ label. depth label ≡ 0) (λ label. depth label ≡ 1) scope
      → At at 0 (statements_code scope ss at) → All 0 (statements_code scope ss at)
  statements_lead ss scope at w h = (statements_every (λ at xs rs. Led xs) (λ at xs. At at 0 xs)
      (λ xs. past xs 0 ≡ 0)
      (λ label. depth label ≡ 0) (λ label. depth label ≡ 1) (λ names m. Unit {0}) (λ e. Unit {0})
      (λ e. Unit {0}) (λ x. Unit {0}) (neutral_of (λ xs. past xs 0 ≡ 0) pieces_past) places_scanned
      (λ names m k le n. tt) pieces_led ss scope at (statements_notes ss) (omega arith) tt w
      (statements_have (λ e. Unit {0}) (λ e. Unit {0}) (λ x. Unit {0}) (λ e. tt) (λ e. tt)
      (λ x. tt) ss) h).1

-- ---- whole bodies

abbrev pub BodyLeads : LinearBody → Type 0
BodyLeads b = AllLead (depth_at b.code) 0 b.code

filter_leads : (owner : Owner) (names : Names) (e : Expression)
    → BodyLeads (filter_funclet owner names e).body
filter_leads owner names e =
    let all = expression_code names e 0 0 ++ instructions.Return (Temporary 0) ∷ [] in
    value_leads (depth_at all) names e 0 (instructions.Return (Temporary 0) ∷ []) (scanned all)
    (tt, tt)

begin_past : (part : Option DataPart) (x : ℕ) → past (finally_begin part x) 0 ≡ 0
begin_past None x = refl
begin_past (Some p) x = refl

pub begin_three : (part : Option DataPart) (x : ℕ) → length (finally_begin part x) ≡ 3
begin_three None x = refl
begin_three (Some p) x = refl

begin_leads : (depth : ℕ → ℕ) (part : Option DataPart) (x : ℕ)
    → Scans depth 0 0 (finally_begin part x) → AllLead depth 0 (finally_begin part x)
begin_leads depth None x c = (tt, (tt, (tt, tt)))
begin_leads depth (Some p) x c = (c.1.1.0, (tt, (tt, tt)))

block_leads : (owner : Owner) (names : Names) (last : Statements)
    → BodyLeads (finally_funclet owner names last).body
block_leads owner names last =
    let scope = finally_scope names in
    let begins = finally_begin names.part names.free in
    let code = statements_code scope last 3 in
    let ends = instructions.Return (Local names.free) ∷ [] in
    let all = begins ++ (code ++ ends) in
    let depth = depth_at all in
    let none = begin_past names.part names.free in
    let three = begin_three names.part names.free in
    lead_both depth begins (code ++ ends) 0 0 none
    (begin_leads depth names.part names.free (scan_front depth 0 0 begins (code ++ ends)
    (scanned all)))
    (lead_both depth code ends 0 0 (statements_past last scope 3)
    (statements_lead depth last scope 3 (record
    { exit = tt; loop_end = tt; loop_next = tt; leave = tt })
    (scan_front depth 3 0 code ends (scan_back depth 0 3 0 0 begins (code ++ ends) (omega arith)
    none (scanned all)))) (tt, tt))

-- nothing is held after a separator
separators_past : (n : ℕ) → past (replicate n Separator) 0 ≡ 0
separators_past zero = refl
separators_past (suc n) = separators_past n

separators_lead : (depth : ℕ → ℕ) (n : ℕ) → AllLead depth 0 (replicate n Separator)
separators_lead depth zero = tt
separators_lead depth (suc n) = (tt, separators_lead depth n)

-- what takes a part of the data stack holds no temporary
bring_past : (base : ℕ) (ps : List StackedParameter) → past (bring_code base ps) 0 ≡ 0
bring_past base [] = refl
bring_past base (p ∷ ps) = bring_past base ps

open_past : (d : Option DataFrame) → past (open_code d) 0 ≡ 0
open_past None = refl
open_past (Some d) = bring_past d.base d.parameters

bring_leads : (depth : ℕ → ℕ) (base : ℕ) (ps : List StackedParameter)
    → AllLead depth 0 (bring_code base ps)
bring_leads depth base [] = tt
bring_leads depth base (p ∷ ps) = (tt, bring_leads depth base ps)

open_leads : (depth : ℕ → ℕ) (d : Option DataFrame) → AllLead depth 0 (open_code d)
open_leads depth None = tt
open_leads depth (Some d) = (tt, bring_leads depth d.base d.parameters)

-- at the exit one is held
exit_depth : (depth : ℕ → ℕ) (at : ℕ) (d : Option DataFrame)
    → Scans depth at 0 (constant 0 0 ∷ (close_code d ++ instructions.Return (Temporary 0) ∷ []))
    → depth (at + 1) ≡ 1
exit_depth depth at None c = c.1.0
exit_depth depth at (Some d) c = c.1.0

end_leads : (depth : ℕ → ℕ) (d : Option DataFrame)
    → AllLead depth 0 (constant 0 0 ∷ (close_code d ++ instructions.Return (Temporary 0) ∷ []))
end_leads depth None = (tt, (tt, tt))
end_leads depth (Some d) = (tt, (tt, (tt, tt)))

function_leads : (f : Function) → BodyLeads (lowered_function f).body
function_leads f = subst (λ code. AllLead (depth_at code) 0 code) (code_is f) whole
  where
    scope : LoweringContext
    scope = scope_of f

    at : ℕ
    at = body_start f

    whole : AllLead (depth_at ((function_begin f ++ function_body_code f) ++ function_end f)) 0
        ((function_begin f ++ function_body_code f) ++ function_end f)
    whole =
        let first = function_begin f in
        let code = function_body_code f in
        let all = (first ++ code) ++ function_end f in
        let depth = depth_at all in
        let k = begin_length f in
        let l = statements_length (scope_of f) f.body (body_start f) in
        let m = length-append first code in
        let none = past_both (first_separators f) (open_code f.data_frame) 0 0 0
        (separators_past (surplus f + asking f)) (open_past f.data_frame) in
        let past = past_both first code 0 0 0 none
        (statements_past f.body (scope_of f) (body_start f)) in
        let ends = scan_back depth 0 (body_start f + statements_size f.body) 0 0 (first ++ code)
        (function_end f) (omega arith) past (scanned all) in
        let begins = scan_back depth 0 (body_start f) 0 0 first code (omega arith) none
        (scan_front depth 0 0 (first ++ code) (function_end f) (scanned all)) in
        lead_both depth (first ++ code) (function_end f) 0 0 past
        (lead_both depth first code 0 0 none
        (lead_both depth (first_separators f) (open_code f.data_frame) 0 0
        (separators_past (surplus f + asking f)) (tt, separators_lead depth (surplus f + asking f))
        (open_leads depth f.data_frame))
        (statements_lead depth f.body (scope_of f) (body_start f) (record {
          exit = exit_depth depth (body_start f + statements_size f.body) f.data_frame ends;
          loop_end = tt;
          loop_next = tt;
          leave = tt;
        }) begins)) (end_leads depth f.data_frame)

pub bodies_lead : (program : Program) (name : BodyName) (b : LinearBody)
    → body_of (lowered program) name ≡ Some b → BodyLeads b
bodies_lead = every_body BodyLeads filter_leads block_leads function_leads
