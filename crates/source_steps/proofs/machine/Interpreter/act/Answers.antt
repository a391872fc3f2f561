use Rattle.std.proofs.Common.{ap, subst, sym, ◌∙◌, IfOk}
use Rattle.c_operations.specs.Performed.{performed}
use Rattle.source_operations.specs.Reserved.{reserved_below}
use Rattle.c_checked.specs.Whole as whole
use Rattle.source_meaning.specs.State.{Normal}
use Rattle.source_machine.specs.Frames as frames
use Rattle.source_machine.specs.Machine as model
use Rattle.source_plans.specs.Views as views
use Rattle.source_steps.specs.Machines.{machine_of, Moved, Showed}
use Rattle.source_steps.proofs.Unshown.{unshown}
use Rattle.source_steps.proofs.machine.Interpreter.act.Goals as goal

pub returns-in-Do : goal.returns-in-Do
returns-in-Do c =
    subst (λ n. IfOk c.take_up.result (Showed c.args.self.now c.take_up.new.self
    (λ m. model.done (whole.program c.args._program.now) m (views.action_of n)))) (sym c.in-Do.is)
    (c.take_up.ensures (whole.program c.args._program.now))

pub returns-in-Fetch : goal.returns-in-Fetch
returns-in-Fetch c =
    unshown (λ n m. model.done (whole.program c.args._program.now) m (views.action_of n))
    c.args.self.now c.fetch.new.self _ _ c.fetch.result
    c.silently.result c.in-Fetch.is c.silently.ensures
    c.fetch.ensures

pub returns-in-Operate : goal.returns-in-Operate
returns-in-Operate c =
    let o = c.in-Operate.operation in
    let a = c.in-Operate.first in
    let b = c.in-Operate.second in
    let p = views.place_of c.in-Operate.place in
    unshown (λ n m. model.done (whole.program c.args._program.now) m (views.action_of n))
    c.args.self.now c.operate.new.self _ _ c.operate.result
    c.silently-in-Operate.result c.in-Operate.is c.silently-in-Operate.ensures
    (subst (λ e. IfOk c.operate.result (Moved c.args.self.now c.operate.new.self
    (λ m. model.operated m o a b p (performed (reserved_below e) o a b m.state.memory))))
    c.requires c.operate.ensures)

pub returns-in-DeclareName : goal.returns-in-DeclareName
returns-in-DeclareName c =
    let program = whole.program c.args._program.now in
    unshown (λ n m. model.done program m (views.action_of n))
    c.args.self.now c.declare.new.self _ _ c.declare.result
    c.silently-in-DeclareName.result c.in-DeclareName.is c.silently-in-DeclareName.ensures
    (c.declare.ensures program c.requires)

pub returns-in-OnStack : goal.returns-in-OnStack
returns-in-OnStack c =
    let program = whole.program c.args._program.now in
    unshown (λ n m. model.done program m (views.action_of n))
    c.args.self.now c.act_on_stack.new.self _ _ c.act_on_stack.result
    c.silently-in-OnStack.result c.in-OnStack.is c.silently-in-OnStack.ensures
    (c.act_on_stack.ensures program c.requires)

pub returns-in-SetLocal : goal.returns-in-SetLocal
returns-in-SetLocal c = λ x es.
    ap (λ n. model.done (whole.program c.args._program.now) (machine_of c.args.self.now x es)
    (views.action_of n)) c.in-SetLocal.is
    ∙ ap (λ m. model.with_next m (frames.Give Normal)) (c.set_local.ensures x es)
    ∙ (λ i. machine_of c.set_local.new.self (sym c.silent-in-SetLocal.ensures.next i)
    (sym (c.silent-in-SetLocal.ensures.shown c.set_local.new.self es) i))

pub returns-in-Guard : goal.returns-in-Guard
returns-in-Guard c =
    unshown (λ n m. model.done (whole.program c.args._program.now) m (views.action_of n))
    c.args.self.now c.guard.new.self _ _ c.guard.result
    c.silently-in-Guard.result c.in-Guard.is c.silently-in-Guard.ensures
    c.guard.ensures

pub returns-in-Answer : goal.returns-in-Answer
returns-in-Answer c = λ x es.
    ap (λ n. model.done (whole.program c.args._program.now) (machine_of c.args.self.now x es)
    (views.action_of n)) c.in-Answer.is ∙ c.answer.ensures (whole.program c.args._program.now) x es

pub returns-in-LetGo : goal.returns-in-LetGo
returns-in-LetGo c = λ x es.
    ap (λ n. model.done (whole.program c.args._program.now) (machine_of c.args.self.now x es)
    (views.action_of n)) c.in-LetGo.is ∙ c.let_go.ensures (whole.program c.args._program.now) x es

pub returns-in-Search : goal.returns-in-Search
returns-in-Search c =
    unshown (λ n m. model.done (whole.program c.args._program.now) m (views.action_of n))
    c.args.self.now c.search.new.self _ _ c.search.result
    c.silently-in-Search.result c.in-Search.is c.silently-in-Search.ensures
    c.search.ensures

pub returns-in-OfVectored : goal.returns-in-OfVectored
returns-in-OfVectored c =
    let program = whole.program c.args._program.now in
    unshown (λ n m. model.done program m (views.action_of n))
    c.args.self.now c.act_vectored.new.self _ _ c.act_vectored.result
    c.silently-in-OfVectored.result c.in-OfVectored.is c.silently-in-OfVectored.ensures
    (c.act_vectored.ensures program)
