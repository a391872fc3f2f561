-- The code at a function's first byte: it makes the frame, and stores the arguments.
use Rattle.std.proofs.Common.{◌≡◌, ℕ, ◌+◌, Bool, Some, List, ◌++◌, length, sym, ap, subst, ◌∙◌, arith}
use Rattle.std.specs.Prelude.{slice_get}
use Rattle.template_code.specs.ColdParts.{hot_code}
use Rattle.match_turns.specs.Words.{Memory, Instr, Functions, Funclet, LinearProgram, LinearFunction, FunctionBody, function_body, body_of, Layout, sizes, parameters_code, code_from, HasCode, ImagePlan, Sites, links_of, frame_code, function_arguments, entry_code, IsProgramImage}
use Rattle.match_bodies.specs.CodeSites.{arguments_code, body_plan}
use Rattle.match_turns.proofs.Lemmas.{sizes_append, code_split, making_steps}
use Rattle.match_bodies.specs.ProgramImages.{HasProgram}

abbrev pub making_frame : ImagePlan → Sites → ℕ → Bool → List Instr
making_frame p q f leaf = frame_code (body_plan p q (FunctionBody f)) leaf

-- the frame is made first; after the arguments the body begins; so many turns does that take
pub record HasEntry (program : LinearProgram) (p : ImagePlan) (q : Sites) (f count : ℕ) (m : Memory)
    (leaf : Bool) : Type 0 where
  pub making : HasCode m (q.function f) (making_frame p q f leaf)
  pub storing : HasCode m (q.function f + sizes (making_frame p q f leaf))
      (parameters_code (p.layout (FunctionBody f)) 0 count)
  pub ends : q.function f + sizes (making_frame p q f leaf)
      + sizes (parameters_code (p.layout (FunctionBody f)) 0 count) ≡ p.address (FunctionBody f) 0
  pub turns : making_steps leaf (body_plan p q (FunctionBody f))
      + length (parameters_code (p.layout (FunctionBody f)) 0 count)
      ≡ making_steps (p.leaf (FunctionBody f)) (body_plan p q (FunctionBody f))
      + length (arguments_code program p (FunctionBody f))

module _ (t : Functions) (fs : List Funclet) (program : LinearProgram) (p : ImagePlan) (q : Sites)
    (image : IsProgramImage t fs program p q) (f count : ℕ) (fn : LinearFunction)
    (callee : slice_get program.functions f ≡ Some fn) (parameters : fn.parameters ≡ count) where
  abbrev layout : Layout
  layout = p.layout (FunctionBody f)

  abbrev target : ℕ
  target = q.function f

  there : body_of program (FunctionBody f) ≡ Some fn.body
  there = ap function_body callee

  entry_is : (leaf : Bool) → p.leaf (FunctionBody f) ≡ leaf
      → entry_code program p q (FunctionBody f)
      ≡ making_frame p q f leaf ++ parameters_code layout 0 count
  entry_is leaf e =
      ap (λ x. making_frame p q f x ++ function_arguments layout (slice_get program.functions f)) e
      ∙ ap (λ x. making_frame p q f leaf ++ function_arguments layout x) callee
      ∙ ap (λ n. making_frame p q f leaf ++ parameters_code layout 0 n) parameters

  codes : (m : Memory) → HasProgram t fs program p q m → (leaf : Bool)
      → p.leaf (FunctionBody f) ≡ leaf → HasCode m target (making_frame p q f leaf)
      × HasCode m (target + sizes (making_frame p q f leaf)) (parameters_code layout 0 count)
  codes m has leaf e =
      let whole = code_split m target (entry_code program p q (FunctionBody f))
      (code_from (links_of p q (FunctionBody f)) layout (p.address (FunctionBody f) 0)
      (hot_code fn.body)) (has.code (FunctionBody f) fn.body there) in
      code_split m target (making_frame p q f leaf) (parameters_code layout 0 count)
      (subst (HasCode m target) (entry_is leaf e) whole.0)

  -- a function's code begins so where the program is
  pub has_entry : (m : Memory) → HasProgram t fs program p q m → (leaf : Bool)
      → p.leaf (FunctionBody f) ≡ leaf → HasEntry program p q f count m leaf
  has_entry m has leaf e = record {
    making = (codes m has leaf e).0;
    storing = (codes m has leaf e).1;
    ends =
        let a = (image.addresses (FunctionBody f) fn.body there).first in
        let z = ap sizes (entry_is leaf e) in
        omega (
          arith,
          a,
          z,
          sizes_append (making_frame p q f leaf)
              (parameters_code layout 0 count),
        );
    turns =
        let arguments : arguments_code program p (FunctionBody f)
        ≡ parameters_code layout 0 count = ap (λ x. function_arguments layout x) callee
        ∙ ap (λ k. parameters_code layout 0 k) parameters in
        λ i. ap (λ l. making_steps l (body_plan p q (FunctionBody f))) (sym e) i
        + length (sym arguments i);
  }
