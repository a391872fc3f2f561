-- What is done at once, as steps of the machine.
use Rattle.std.proofs.Common.{◌≡◌, ℕ, suc, List, [], ◌∷◌, map, refl, sym, ap, ◌∙◌, subst}
use Rattle.std.specs.Prelude.{true, Option, Some, None, option_map}
use Rattle.seh_num.specs.declared.event.Event.{Event}
use Rattle.c_checked.specs.declared.expression.Conversion.{Conversion}
use Rattle.c_checked.specs.Expression.{Expression, On, Node}
use Rattle.c_checked.specs.Program.{Program}
use Rattle.c_checked.specs.Statement as trees
use Rattle.source_meaning.specs.Source.{data_end as model_data_end}
use Rattle.source_meaning.specs.State.{Value, Normal}
use Rattle.source_meaning.specs.Expressions.{converted}
use Rattle.source_meaning.specs.Tasks.{Eval, Run}
use Rattle.source_machine.specs.Frames as frames
use Rattle.source_machine.specs.Frames.{Place, Next, Give, Start, InStatement}
use Rattle.source_machine.specs.Machine.{Machine, step}
use Rattle.source_operations.specs.Reserved.{reserved_below}
use Rattle.source_plans.specs.Views.{handler_of}
use Rattle.source_plans.specs.declared.frame.Completion.{Completion}
use Rattle.source_plans.specs.declared.frame.Completion.TheVariants as completions
use Rattle.source_values.specs.Leading.{Leads}
use Rattle.source_values.specs.Direct as spec
use Rattle.source_values.specs.Surrounding.{around}
use Rattle.source_values.proofs.Steps.{leads_on, leads_then}
use Rattle.source_values.proofs.ValueSteps.{value_leads}
use Rattle.source_values.proofs.ChangeSteps.{changed_leads}
use Rattle.source_steps.specs.Machines.{machine_of, state_of}
use Rattle.source_steps.specs.Directly.{Hastened, Unchanged, DoneAtOnce, WrittenTo, Made, EvaluatedTo, Evaluated}
use Rattle.source_steps.specs.Directly.{stack_of, waiting}
use Rattle.source_steps.specs.declared.machine.Interpreter.{Interpreter}

-- a value, in surroundings that are those of the place
pub value_at_once : (program : Program) (m : Interpreter) (p : Place) (e : Expression)
    (left data_end : ℕ) (k : spec.Surroundings) (r : ℕ × ℕ)
    → data_end ≡ model_data_end program.globals
    → ((es : List Event) → k ≡ around (reserved_below data_end) (state_of m es) p)
    → spec.value k e left ≡ Some r
    → EvaluatedTo program m left e p (record m { steps_left = r.1 }) r.0
value_at_once program m p e left data_end k r ends there is = record {
  leads =
      λ es fs.
      value_leads program (state_of m es) p (map handler_of m.handlers.items) e fs left r
      (subst (λ (d : ℕ). spec.value (around (reserved_below d) (state_of m es) p) e left ≡ Some r)
      ends (subst (λ (k : spec.Surroundings). spec.value k e left ≡ Some r) (there es) is));
  stack = refl;
}

-- a change of one place
change_at_once : (program : Program) (m m' : Interpreter) (p : Place) (x : Node) (to : Conversion)
    (left data_end : ℕ) (k : spec.Surroundings) (c : spec.Change)
    → data_end ≡ model_data_end program.globals
    → ((es : List Event) → k ≡ around (reserved_below data_end) (state_of m es) p)
    → spec.change k x left ≡ Some c
    → WrittenTo m (λ st. spec.written (reserved_below data_end) st p c.target c.address c.written)
    m' true
    → EvaluatedTo program m (suc left) (On x to) p (record m' { steps_left = c.left })
    (converted to c.value)
change_at_once program m m' p x to left data_end k c ends there is written = record {
  leads =
      λ es fs.
      let w = written es in
      let st = state_of m es in
      let hs = map handler_of m.handlers.items in
      let made : spec.change (around (reserved_below (model_data_end program.globals)) st p) x left
      ≡ Some c =
      subst (λ (d : ℕ). spec.change (around (reserved_below d) st p) x left ≡ Some c)
      ends (subst (λ (k : spec.Surroundings). spec.change k x left ≡ Some c) (there es) is) in
      let done : spec.written (reserved_below (model_data_end program.globals)) st p c.target
      c.address c.written ≡ Some w.0 =
      subst (λ (d : ℕ). spec.written (reserved_below d) st p c.target c.address c.written
      ≡ Some w.0) ends w.1 in
      let l = changed_leads program st p hs w.0 x to fs left c made done in
      let end = Give (Value (converted to c.value)) in
      record {
        steps = l.steps;
        is =
            l.is
            ∙ sym (ap (λ (k : Machine). record k {
              state = record k.state { steps_left = c.left };
              stack = fs;
            }) (w.2 end));
      };
  stack = ap (λ (k : Machine). k.stack) ((written []).2 (Give Normal));
}

-- the same, as the code makes it
pub made_at_once : (program : Program) (m m' : Interpreter) (p : Place) (x : Node) (to : Conversion)
    (n left data_end : ℕ) (k : spec.Surroundings) (c : spec.Change) (given : Option ℕ)
    → data_end ≡ model_data_end program.globals
    → ((es : List Event) → k ≡ around (reserved_below data_end) (state_of m es) p)
    → n ≡ suc left → spec.change k x left ≡ Some c
    → Made m (λ st. spec.written (reserved_below data_end) st p c.target c.address c.written)
    m' c.left (converted to c.value) given
    → Evaluated program m n (On x to) p m' given
made_at_once program m m' p x to n left data_end k c None ends there more is made = made
made_at_once program m m' p x to n left data_end k c (Some v) ends there more is made =
    subst (λ (n : ℕ). EvaluatedTo program m n (On x to) p m' v) (sym more)
    (subst (λ (m' : Interpreter). EvaluatedTo program m (suc left) (On x to) p m' v) (sym made.is)
    (subst (λ (v : ℕ). EvaluatedTo program m (suc left) (On x to) p
    (record made.before { steps_left = c.left }) v) (sym made.gives)
    (change_at_once program m made.before p x to left data_end k c ends there is made.written)))

pub eval_at_once : (program : Program) (m m' : Interpreter) (p : Place) (e : Expression) (v : ℕ)
    → EvaluatedTo program m m.steps_left e p m' v
    → Hastened program m (Start (Eval e) p) m' (Give (Value v))
eval_at_once program m m' p e v d = λ es.
    let l = d.leads es (stack_of m) in
    record {
      steps = l.steps;
      is = l.is ∙ ap (λ fs. waiting fs (machine_of m' (Give (Value v)) es)) (sym d.stack);
    }

pub run_at_once : (program : Program) (m m' : Interpreter) (p : Place) (e : Expression) (n v : ℕ)
    → m.steps_left ≡ suc n → EvaluatedTo program m n e p m' v
    → Hastened program m (Start (Run (trees.Evaluate (Some e))) p) m' (Give Normal)
run_at_once program m m' p e n v left d = λ es.
    let fs = InStatement frames.EndsEvaluation ∷ stack_of m in
    subst (λ (k : ℕ). Leads program
    (machine_of (record m { steps_left = k }) (Start (Run (trees.Evaluate (Some e))) p) es)
    (machine_of m' (Give Normal) es)) (sym left)
    (leads_on program 2 _ (waiting fs (machine_of (record m { steps_left = n })
    (Start (Eval e) p) es)) _ refl
    (leads_then program _ _ _ (d.leads es fs)
    (record {
      steps = 1;
      is = ap (λ fs. waiting fs (machine_of m' (Give Normal) es)) (sym d.stack);
    })))

-- the same, of what may have a value
pub evaluated_at_once : (program : Program) (m m' : Interpreter) (p : Place) (e : Expression)
    (o : Option ℕ) (how : Option Completion) → how ≡ option_map completions.Value o
    → Evaluated program m m.steps_left e p m' o → DoneAtOnce program m (Eval e) p m' how
evaluated_at_once program m m' p e None how is d =
    subst (λ how. DoneAtOnce program m (Eval e) p m' how) (sym is) d
evaluated_at_once program m m' p e (Some v) how is d =
    subst (λ how. DoneAtOnce program m (Eval e) p m' how) (sym is)
    (eval_at_once program m m' p e v d)

pub ran_at_once : (program : Program) (m m' : Interpreter) (p : Place) (e : Expression) (n : ℕ)
    (o : Option ℕ) (how : Option Completion) → how ≡ option_map (λ v. completions.Normal) o
    → m.steps_left ≡ suc n → Evaluated program m n e p m' o
    → DoneAtOnce program m (Run (trees.Evaluate (Some e))) p m' how
ran_at_once program m m' p e n None how is left d =
    subst (λ how. DoneAtOnce program m (Run (trees.Evaluate (Some e))) p m' how) (sym is) d
ran_at_once program m m' p e n (Some v) how is left d =
    subst (λ how. DoneAtOnce program m (Run (trees.Evaluate (Some e))) p m' how) (sym is)
    (run_at_once program m m' p e n v left d)

-- a task that begins
pub begins : (program : Program) (m m' m'' : Interpreter) (next next' : Next) → Unchanged m m'
    → ((es : List Event) → step program (machine_of m' next es) ≡ machine_of m'' next' es)
    → Hastened program m next m'' next'
begins program m m' m'' next next' same steps = λ es. record {
  steps = 1;
  is = ap (step program) (sym (same next es)) ∙ steps es;
}
