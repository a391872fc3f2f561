-- `main` begins.
use Rattle.std.proofs.Common.{◌≡◌, ℕ, zero, suc, ◌+◌, ◌*◌, ◌^◌, ◌<◌, ◌≤◌, Bool, true, false, Some, ℤ, pos, negsuc, List, [], ◌∷◌, length, get_or, refl, sym, ap, subst, arith}
use Rattle.std.specs.Prelude.{slice_get, nat_eq, replicate, if◌then◌else◌}
use Rattle.std.proofs.lemmas.Option.{slice_get_within}
use Rattle.image_runs.specs.Words.{weight, weight_of, depth_weight, DEEPEST, MOST_WEIGHT, FRAME_BY_WEIGHT, STACK_END, Memory, Cpu, State, context_below, Functions, Funclet, first_cpu, LinearProgram, LinearFunction, FunctionBody, body_of, function_body, Layout, InRegisters, ImagePlan, CanContinue, IsWellFormed, HasSpace, below_end, IsLayoutIf, Sites, IsProgramImage, seen_by_templates, first_stack, IsFirst, MainBegins, W64, first_memory, main_arguments, start, IsWellMade}
use Rattle.seh_num.specs.Widths.{wrapped}
use Rattle.seh_records.specs.Laws.{AllSmall}
use Rattle.image_runs.proofs.Lemmas.{label_in}
use Rattle.image_runs.specs.MainLaws.{MainIsBegun}
use Rattle.linear_machine.specs.Frames.{Store}
use Rattle.match_stack.specs.StackRecords.{On}
use Rattle.match_bodies.proofs.Steps.InstructionEffects.{others_of}
use Rattle.match_turns.proofs.Functions.GivenFunction.{IsCalled}
use Rattle.match_turns.proofs.Functions.GivenStart.{FunctionStarts}
use Rattle.match_turns.proofs.Functions.GivenStart as starting

-- what the argument registers hold: the argument of the run, and zeros
abbrev given : ℤ → ℕ → ℕ
given arg zero = wrapped W64 arg
given arg (suc i) = 0

wrapped_small : (arg : ℤ) → wrapped W64 arg < 2 ^ 64
wrapped_small (pos n) = omega arith
wrapped_small (negsuc n) = omega arith

given_small : (arg : ℤ) (i : ℕ) → given arg i < 2 ^ 64
given_small arg zero = wrapped_small arg
given_small arg (suc i) = omega arith

-- `main` takes the argument, or nothing
given_are : (parameters : ℕ) (arg : ℤ) (i v : ℕ)
    → slice_get (main_arguments parameters arg) i ≡ Some v → given arg i ≡ v
given_are parameters arg i v e = by (nat_eq parameters 0) i e
  where
    by : (b : Bool) (i : ℕ) → slice_get (if b then [] else wrapped W64 arg ∷ []) i ≡ Some v
        → given arg i ≡ v
    by true zero e = cc
    by true (suc i) e = cc
    by false zero e = cc
    by false (suc i) e = cc

arguments_count : (parameters : ℕ) (arg : ℤ) → parameters ≤ 1
    → length (main_arguments parameters arg) ≡ parameters
arguments_count zero arg le = refl
arguments_count (suc zero) arg le = refl
arguments_count (suc (suc n)) arg le = absurd (omega arith)

-- the first registers
small_more : (x : ℕ) (xs : List ℕ) → x < 2 ^ 64 → AllSmall xs → AllSmall (x ∷ xs)
small_more x xs h rest zero lt = h
small_more x xs h rest (suc j) lt = rest j (omega arith)

small_zeros : (n : ℕ) → AllSmall (replicate n 0)
small_zeros zero j lt = absurd (omega arith)
small_zeros (suc n) j lt = small_more 0 (replicate n 0) (omega arith) (small_zeros n) j lt

first_small : (entry : ℕ) (arg : ℤ) → AllSmall (first_cpu entry arg).registers
first_small entry arg =
    let zeros : List ℕ = replicate 11 0 in
    small_more 0 (wrapped W64 arg ∷ 0 ∷ 0 ∷ first_stack ∷ zeros) (omega arith)
    (small_more (wrapped W64 arg) (0 ∷ 0 ∷ first_stack ∷ zeros) (wrapped_small arg)
    (small_more 0 (0 ∷ first_stack ∷ zeros) (omega arith)
    (small_more 0 (first_stack ∷ zeros) (omega arith)
    (small_more first_stack zeros (omega arith) (small_zeros 11)))))

module _ (t : Functions) (fs : List Funclet) (program : LinearProgram) (p : ImagePlan) (q : Sites)
    (image : IsProgramImage t fs program p q) (made : IsWellMade program p) (arg : ℤ)
    (main : LinearFunction) (s : State) (is_main : slice_get program.functions program.main
    ≡ Some main) (light : weight main ≤ MOST_WEIGHT)
    (shallow : depth_weight main ≤ DEEPEST)
    (goes : CanContinue program (start program arg main)) (h : IsFirst t fs program p q arg s) where
  abbrev source : Memory
  source = first_memory program.globals

  abbrev cpu : Cpu
  cpu = first_cpu (q.function program.main) arg

  there : body_of program (FunctionBody program.main) ≡ Some main.body
  there = ap function_body is_main

  some : 0 < length main.body.code
  some = slice_get_within main.body.code 0 goes.instruction
      (label_in (body_of program (FunctionBody program.main)) main.body 0 goes.instruction there
      goes.at)

  few : main.parameters ≤ 1
  few = made.whole.few main is_main

  function_small : q.function program.main < 2 ^ 64
  function_small =
      let a = image.addresses (FunctionBody program.main) main.body there in
      let u = a.inside.high in
      let r = a.first in
      omega arith

  well_formed : IsWellFormed [] s
  well_formed = record {
    rip_small = subst (λ (c : Cpu). c.rip < 2 ^ 64) (sym h.cpu) function_small;
    count = ap (λ (c : Cpu). length c.registers) h.cpu;
    small = subst (λ (c : Cpu). AllSmall c.registers) (sym h.cpu)
        (first_small (q.function program.main) arg);
    listed = h.no_handlers;
  }

  called : IsCalled t fs program p q s source program.main main first_stack (given arg)
  called = record {
    function = is_main;
    rip = ap (λ (c : Cpu). c.rip) h.cpu;
    stack = ap (λ (c : Cpu). get_or c.registers 4 0) h.cpu;
    shallow = shallow;
    low = omega arith;
    high = omega arith;
    count = well_formed.count;
    numbers = well_formed.small;
    few = omega (arith, few);
    fits = made.whole.parameters program.main main is_main;
    registers = subst (λ (c : Cpu). InRegisters
        (seen_by_templates (record s { cpu = c })) (given arg)) (sym h.cpu)
        (record { first = refl; second = refl; third = refl; fourth = refl });
    small = given_small arg;
    all_small = well_formed.small;
    memory = h.memory;
  }

  -- ---- nothing waits below it, and it returns to 0

  abbrev layout : Layout
  layout = p.layout (FunctionBody program.main)

  abbrev held : ℕ
  held = 0 + (main.surplus + main.data_surplus)

  abbrev store : Store
  store = record { memory = source; activations = []; vectored = [] }

  frame_fits : layout.frame + 8 ≤ FRAME_BY_WEIGHT * weight main
  frame_fits = by (p.leaf (FunctionBody program.main))
      (image.laid_out (FunctionBody program.main) main.body there)
    where
      by : (leaf : Bool)
          → IsLayoutIf program p (weight_of (slice_get program.functions program.main)) layout
          main.body leaf → layout.frame + 8 ≤ FRAME_BY_WEIGHT * weight main
      by true l = let e = l.frame in omega arith
      by false l =
          let e = l.small in
          let w : weight_of (slice_get program.functions program.main) ≡ weight main = ap weight_of
          is_main in
          omega arith

  depth : (sp : ℕ) → sp + layout.frame ≡ first_stack → HasSpace sp below_end (1 + held)
  depth sp e = let z = frame_fits in record { space = omega arith; shallow = omega arith }

  nothing_below : On t fs program p s.memory
      (context_below 0 (first_stack + 8) (others_of s.cpu.registers)) [] [] []
  nothing_below = record {
    is_there = record {
      stack = refl;
      linked = (refl, (let z : first_stack + 8 ≤ STACK_END = omega arith in z));
    };
    data_alone = h.memory.data_alone;
  }

  abbrev arguments : List ℕ
  arguments = main_arguments main.parameters arg

  begins : FunctionStarts t fs program p q s program.main main arguments held [] store []
  begins = starting.started t fs program p q image s store program.main main first_stack (given arg)
      called some well_formed 0 h.returns arguments
      (arguments_count main.parameters arg few) (given_are main.parameters arg) [] [] held [] refl
      tt refl [] nothing_below (λ a w. absurd w) depth

  pub main_begins : MainBegins t fs program p q arg main s
  main_begins =
      let b = begins in
      let soon = b.few in
      let one = few in
      record {
        values = b.others;
        as_many = b.as_many;
        small = b.small;
        turns = b.turns;
        few = omega arith;
        state = b.state;
        comes = b.comes;
        begins = b.begins;
      }

pub main_is_begun : MainIsBegun
main_is_begun t fs program p q image made arg main s is_main light shallow goes h =
    main_begins t fs program p q image made arg main s is_main light shallow goes h
