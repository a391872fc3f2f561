-- Every lowered body has cold parts that can stand apart.
use Rattle.std.proofs.Common.{◌≡◌, ℕ, ◌+◌, ◌<◌, ◌≤◌, List, [], ◌∷◌, ◌++◌, length, refl, sym, ap, ◌∙◌, ◌⊎◌, inl, inr, subst, arith, length-append}
use Rattle.std.specs.List.{AllByRecursion}
use Rattle.std.specs.Prelude.{not, slice_get, Some}
use Rattle.std.proofs.lemmas.Bool.{and_parts, cases_lt}
use Rattle.linear_code.specs.declared.program.LabelRange.{LabelRange}
use Rattle.linear_code.specs.declared.instruction.Instruction.TheVariants as instructions
use Rattle.seh_ir.specs.ColdParts.{statement_calls, statement_tries}
use Rattle.seh_ir.specs.Lowered.{body_start}
use Rattle.lowering_invariants.specs.Words.{Expression, Function, Statements, Instruction, Jump, LinearBody, Owner, Names, statement_size, statements_size, statement_code, statements_cold, scope_of, lowered_function, filter_funclet, finally_funclet}
use Rattle.lowering_invariants.specs.ColdParts.{IsApart, IsOutOf, IsColdPart, AreRising, HasColdParts}
use Rattle.lowering_invariants.specs.PlaceLaws.{LoweredHasColdParts}
use Rattle.lowering_invariants.proofs.Lemmas.{statement_length, statements_length, all_append, IsSegmentAt, front, back}
use Rattle.lowering_invariants.proofs.Stacks.StackTargets.{all_at, same_it}
use Rattle.lowering_invariants.proofs.SeparatorCounts.Separators.{all_with}
use Rattle.lowering_invariants.proofs.SeparatorCounts.FirstSeparators.{open_every, function_begin, function_body_code, function_end, begin_every, end_every, begin_length, end_length, code_is, code_every, body_at}
use Rattle.lowering_invariants.proofs.EveryBody.{every_body}
use Rattle.lowering_invariants.proofs.Regions.NoBlocks.{MayBeCold, AllMayBeCold}
use Rattle.lowering_invariants.proofs.ColdCode.ColdRanges.{IsBetween, all_between, are_rising, statements_rising, statements_apart, no_try}
use Rattle.lowering_invariants.proofs.ColdCode.ColdCalls.{call_there, statement_called}
use Rattle.lowering_invariants.proofs.ColdCode.ColdInstructions.{HasJumps, statement_ordinary}
use Rattle.lowering_invariants.proofs.ColdCode.ColdBranches.{IsBranch, statements_branches}
use Rattle.lowering_invariants.proofs.ColdCode.ColdUnwinds.{GoesHot, statements_go_hot, out_after}

-- what holds of all of a segment holds of an instruction in it
in_segment : (code : List Instruction) (at : ℕ) (xs : List Instruction) → IsSegmentAt code at xs
    → AllMayBeCold xs → (label : ℕ) (i : Instruction) → at ≤ label → label < at + length xs
    → slice_get code label ≡ Some i → MayBeCold i
in_segment code at [] s h label i a b g = absurd (omega arith)
in_segment code at (x ∷ xs) s h label i a b g =
    of (cases_lt at label)
    (λ more. in_segment code (at + 1) xs s.1 h.1 label i (omega arith) (omega arith) g)
  where
    of : (at < label) ⊎ (label ≤ at) → (at < label → MayBeCold i) → MayBeCold i
    of (inl more) go = go more
    of (inr last) go =
        let same : label ≡ at = omega arith in
        subst MayBeCold (same_it x i (sym s.0 ∙ ap (slice_get code) (sym same) ∙ g)) h.0

-- a branch in a body
part_is : (b : LinearBody) (low high : ℕ) (p : LabelRange) → high < length b.code
    → IsBranch b.code p → IsBetween low high p → AllByRecursion (IsApart p) b.regions
    → IsColdPart b p
part_is b low high p lt branch between apart =
    let s = branch.statement in
    let scope = branch.scope in
    let own = statement_code scope s p.begin in
    let l = statement_length scope s p.begin in
    let jump = Jump p.end ∷ [] in
    let m = length-append own jump in
    let e = branch.ends in
    let to = between.ends in
    let last = back b.code p.begin (p.begin + statement_size s) own jump (omega arith)
    branch.there in
    let is_cold = and_parts (statement_calls s) (not (statement_tries s)) branch.cold in
    let call = call_there b.code p.begin own (front b.code p.begin own jump branch.there)
    (statement_called s scope p.begin is_cold.0) in
    let before = call.ends in
    let plain = all_append MayBeCold own jump
    (statement_ordinary s scope p.begin branch.ways (no_try s branch.cold)) (refl, tt) in
    record {
      some = between.some;
      inside = omega arith;
      begins = branch.begins;
      ends = record {
        place = p.begin + statement_size s;
        before = e;
        to = p.end;
        jump = last.0;
      };
      calls = record {
        label = call.label;
        begins = call.begins;
        ends = omega arith;
        instruction = call.instruction;
        there = call.there;
        call = call.call;
      };
      plain = λ label i a c g. in_segment b.code p.begin (own ++ jump) branch.there plain label i a
          (omega arith) g;
      regions = apart;
    }

-- ---- whole bodies

none_cold : (b : LinearBody) → b.cold ≡ [] → HasColdParts b
none_cold b e = record {
  parts = subst (AllByRecursion (IsColdPart b)) (sym e) tt;
  rising = subst (λ ps. AreRising 0 ps) (sym e) tt;
  unwinds = λ label to g. subst (AllByRecursion (IsOutOf to)) (sym e) tt;
}

filter_cold : (owner : Owner) (names : Names) (e : Expression)
    → HasColdParts (filter_funclet owner names e).body
filter_cold owner names e = none_cold (filter_funclet owner names e).body refl

block_cold : (owner : Owner) (names : Names) (last : Statements)
    → HasColdParts (finally_funclet owner names last).body
block_cold owner names last = none_cold (finally_funclet owner names last).body refl

function_cold : (f : Function) → HasColdParts (lowered_function f).body
function_cold f =
    let b = (lowered_function f).body in
    let scope = scope_of f in
    let at = body_start f in
    let to = at + statements_size f.body in
    let cold = statements_cold f.body at in
    let first = function_begin f in
    let code = function_body_code f in
    let k = begin_length f in
    let e = end_length f in
    let same = ap length (code_is f) in
    let l = statements_length scope f.body at in
    let m = length-append first code in
    let n = length-append (first ++ code) (function_end f) in
    let rising = statements_rising f.body at in
    let ways : HasJumps scope = record { exit = tt; loop_end = tt; loop_next = tt } in
    let there = front b.code at code (function_end f) (body_at f) in
    let hot = code_every (GoesHot cold) f
    (begin_every (GoesHot cold) tt f
    (open_every (GoesHot cold) f.data_frame (λ base size. tt) (λ base p. tt)))
    (statements_go_hot cold f.body scope at ways
    (record {
      exit = out_after (to + 1) at to cold (omega arith) rising;
      loop_end = tt;
      loop_next = tt;
      leave = tt;
    }) (λ label a c h. h)) (end_every (GoesHot cold) tt (λ base. tt) tt f) in
    let Known : LabelRange → Type 0 = λ p. IsBranch b.code p × IsBetween at to p in
    record {
      parts = all_with Known (λ (p : LabelRange). AllByRecursion (IsApart p) b.regions)
          (IsColdPart b) cold (λ p w a. part_is b at to p (omega arith) w.0 w.1 a)
          (all_with (IsBranch b.code) (IsBetween at to) Known cold (λ p x y. (x, y))
          (statements_branches b.code f.body scope at ways there)
          (all_between at to cold rising)) (statements_apart f.body at);
      rising = are_rising at 0 to cold (omega arith) rising;
      unwinds = λ label target g. all_at (GoesHot cold) b.code label
          (instructions.LocalUnwind target) hot g;
    }

pub lowered_has_cold_parts : LoweredHasColdParts
lowered_has_cold_parts = every_body HasColdParts filter_cold block_cold function_cold
