use Rattle.source_plans.specs.Views as views
use Rattle.source_steps.specs.Finished.{resumed_from}
use Rattle.source_steps.proofs.Unshown.{unshown}
use Rattle.source_steps.proofs.machine.Interpreter.resume_waiting.Goals as goal

pub returns-in-Operand : goal.returns-in-Operand
returns-in-Operand c =
    unshown (λ f m. resumed_from m (views.waiting_of f) (views.result_of c.args.how))
    c.args.self.now c.resume_operand.new.self _ _ c.resume_operand.result
    c.silently.result c.in-Operand.is c.silently.ensures c.resume_operand.ensures

pub returns-in-Assignment : goal.returns-in-Assignment
returns-in-Assignment c =
    unshown (λ f m. resumed_from m (views.waiting_of f) (views.result_of c.args.how))
    c.args.self.now c.resume_assignment.new.self _ _ c.resume_assignment.result
    c.silently-in-Assignment.result c.in-Assignment.is c.silently-in-Assignment.ensures
    c.resume_assignment.ensures

pub returns-in-Statement : goal.returns-in-Statement
returns-in-Statement c =
    unshown (λ f m. resumed_from m (views.waiting_of f) (views.result_of c.args.how))
    c.args.self.now c.resume_statement.new.self _ _ c.resume_statement.result
    c.silently-in-Statement.result c.in-Statement.is c.silently-in-Statement.ensures
    c.resume_statement.ensures

pub returns-in-Sequel : goal.returns-in-Sequel
returns-in-Sequel c =
    unshown (λ f m. resumed_from m (views.waiting_of f) (views.result_of c.args.how))
    c.args.self.now c.resume_sequel.new.self _ _ c.resume_sequel.result
    c.silently-in-Sequel.result c.in-Sequel.is c.silently-in-Sequel.ensures c.resume_sequel.ensures

pub returns-in-Body : goal.returns-in-Body
returns-in-Body c =
    unshown (λ f m. resumed_from m (views.waiting_of f) (views.result_of c.args.how))
    c.args.self.now c.resume_body.new.self _ _ c.resume_body.result
    c.silently-in-Body.result c.in-Body.is c.silently-in-Body.ensures c.resume_body.ensures

pub returns-in-EndsCall : goal.returns-in-EndsCall
returns-in-EndsCall c =
    unshown (λ f m. resumed_from m (views.waiting_of f) (views.result_of c.args.how))
    c.args.self.now c.leave_call.new.self _ _ c.leave_call.result
    c.silently-in-EndsCall.result c.in-EndsCall.is c.silently-in-EndsCall.ensures
    c.leave_call.ensures

pub returns-in-Finishes : goal.returns-in-Finishes
returns-in-Finishes c =
    unshown (λ f m. resumed_from m (views.waiting_of f) (views.result_of c.args.how))
    c.args.self.now c.finish_try.new.self _ _ c.finish_try.result
    c.silently-in-Finishes.result c.in-Finishes.is c.silently-in-Finishes.ensures
    c.finish_try.ensures
