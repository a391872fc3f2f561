use Rattle.std.proofs.Common.{◌≤◌, [], ◌∷◌, length, map, refl, ap, subst, ◌∙◌, arith}
use Rattle.std.proofs.lemmas.Result.{IfOk-weaker}
use Rattle.std.specs.Prelude.{option_map}
use Rattle.c_checked.specs.Statement as checked
use Rattle.c_statements.specs.Words.{SymbolTable, FunctionState, MakesPart, MakesBlock, environment, numbering, resolved_at, in_body, in_handler, in_finally, Numbering, ResolvedStatements, inside, resolve_statement, resolve_statements, expression, statement, statements}
use Rattle.c_resolved.specs.Statements as definitions
use Rattle.c_statements.proofs.Going.{resolved_from, goes, gone}
use Rattle.c_statements.proofs.Guarded.{for_is, ends_as_before, except_is, finally_is}
use Rattle.c_statements.proofs.Parts.{one_is, part_in, part_is, block_in, block_is, condition_and_body_in, condition_and_body_is, if_else_is}
use Rattle.c_statements.proofs.Trees as read
use Rattle.c_statements.proofs.statements.+nested.Goals as goal
use Rattle.c_syntax.specs.Statement as trees

pub part-returns : goal.part-returns
part-returns _ c =
    part_is c.args.env.now c.args.names.now c.open.new.self c.statement.new.names
    c.close.new.self c.args.state.now c.statement.new.state c.in_ok-made.made.items _
    (statement c.args.s.now) c.in_ok-open.ensures.opened c.in_ok-made.ensures c.close.ensures
    (ap checked.statement c.in_ok-new.ensures.ok ∙ c.only.ensures)

pub items-returns : goal.items-returns
items-returns _ c =
    block_is c.args.env.now c.args.names.now c.open.new.self c.statements.new.names
    c.close.new.self c.args.state.now c.statements.new.state c.in_ok-made.made.items
    (statements (map statement c.args.list.now)) c.in_ok-open.ensures.opened c.in_ok-made.ensures
    c.close.ensures

pub condition_and_body-returns-in-Ok : goal.condition_and_body-returns-in-Ok
condition_and_body-returns-in-Ok _ c =
    let t = c.args.names.now in
    let w = c.args.state.now in
    let first : FunctionState = record {
      sizes = w.sizes;
      variables = w.variables;
      number = w.number;
      faults = c.condition.new.faults;
    } in
    let f : Numbering → ResolvedStatements = λ n. resolve_statement (statement c.args.s.now)
    (environment c.args.inner.now (t.block ∷ t.around)) [] n in
    let v = definitions.condition c.args.at (resolved_at (environment c.args.env.now t.around)
    t.block (expression c.args.e.now)) in
    condition_and_body_is t c.part.new.names w first c.part.new.state c.in_ok-value.value
    c.in-Ok.made.value v
    f c.in_ok-value.ensures.value c.in_ok-value.ensures.faults refl c.in-Ok.ensures

pub for_loop-returns-in-Ok-part-clause-names : goal.for_loop-returns-in-Ok-part-clause-names
for_loop-returns-in-Ok-part-clause-names _ c =
    ends_as_before c.args.names.now c.open.new.self c.for_initialiser.new.names c.part.new.names
    c.close.new.self _ c.in_ok-open.ensures.opened c.in_ok-beginning.ensures.names
    c.in-Ok-part.ensures.names c.close.ensures

pub for_loop-returns-in-Ok-part-clause-made : goal.for_loop-returns-in-Ok-part-clause-made
for_loop-returns-in-Ok-part-clause-made _ c =
    let w = c.args.state.now in
    let w1 = c.for_initialiser.new.state in
    let w2 : FunctionState = record {
      sizes = w1.sizes;
      variables = w1.variables;
      number = w1.number;
      faults = c.condition_or_none.new.faults;
    } in
    let w3 : FunctionState = record {
      sizes = w1.sizes;
      variables = w1.variables;
      number = w1.number;
      faults = c.any_or_none.new.faults;
    } in
    for_is c.args.env.now c.in_loop.result c.args.names.now c.open.new.self
    c.for_initialiser.new.names c.part.new.names w w1 w2 w3 c.part.new.state
    c.in_ok-beginning.beginning c.in-Ok.value c.in-Ok-any_or_none.after c.in-Ok-part.made.value
    c.for_of.result c.args.at (trees.first c.args.first.now)
    (option_map expression c.args.condition.now)
    (option_map expression c.args.next.now) (statement c.args.body.now)
    c.in_ok-open.ensures.opened c.in_loop.ensures c.in_ok-beginning.ensures c.in-Ok.ensures
    c.in-Ok-any_or_none.ensures refl c.in-Ok-part.ensures c.for_of.ensures

pub with_parts-returns-in-Ok : goal.with_parts-returns-in-Ok
with_parts-returns-in-Ok _ c =
    let x = c.in-If in
    let y = c.in-Some in
    let w = c.args.state.now in
    let w1 = c.condition_and_body.new.state in
    let w2 = c.part.new.state in
    let t = c.args.names.now in
    let t1 = c.condition_and_body.new.names in
    let t2 = c.part.new.names in
    let a = environment c.args.env.now t.around in
    let here = inside a t.block in
    let k = c.in_ok-value-in-If in
    let o = c.in-Ok in
    let made = c.if_else_of.result in
    let v = definitions.condition x.at (resolved_at a t.block (expression x.condition)) in
    let m = condition_and_body_in t t1 w w1 k.value k.then.value v (statement c.deref.result.now)
    (statement x.then.value) here here (numbering w)
    (ap statement c.deref.ensures) refl k.ensures in
    let n0 = subst (λ (q : SymbolTable). MakesPart q t2 w1 w2 o.otherwise.value (resolve_statement
    (statement c.deref-in-Some.result.now) (environment c.args.env.now (q.block ∷ q.around)) []
    (numbering w1))) k.ensures.names o.ensures in
    let n = part_in t t2 w1 w2 o.otherwise.value (statement c.deref-in-Some.result.now)
    (statement y.otherwise.value) here here (numbering w1)
    (ap statement c.deref-in-Some.ensures) refl n0 in
    IfOk-weaker c.one-in-Ok.result _ _
    (λ list q.
    one_is t t2 w w2 made (map checked.statement list.items) (statement c.args.s.now)
    (trees.IfElse x.at (expression x.condition) (statement x.then.value)
    (statement y.otherwise.value)) a (read.if_some x.at x.condition x.then x.otherwise y.otherwise
    c.args.s.now x.is y.is) n.names
    (if_else_is t t1 t2 t.block w w1 w2 k.value k.then.value o.otherwise.value made a x.at
    (expression x.condition) (statement x.then.value) (statement y.otherwise.value) m n
    c.if_else_of.ensures) q) c.one-in-Ok.ensures

pub statement-returns-in-Break : goal.statement-returns-in-Break
statement-returns-in-Break _ c =
    let t = c.args.names.now in
    IfOk-weaker c.one-in-Break.result _ _
    (λ list q.
    one_is t t c.args.state.now c.break_from.new.state c.break_from.result
    (map checked.statement list.items) (statement c.args.s.now) (trees.Break c.in-Break.at)
    (environment c.args.env.now t.around) (ap statement c.in-Break.is ∙ read.break_is c.in-Break.at)
    refl (c.break_from.ensures t.around t.block) q) c.one-in-Break.ensures

pub statement-returns-in-Continue : goal.statement-returns-in-Continue
statement-returns-in-Continue _ c =
    let t = c.args.names.now in
    IfOk-weaker c.one-in-Continue.result _ _
    (λ list q.
    one_is t t c.args.state.now c.continue_from.new.state c.continue_from.result
    (map checked.statement list.items) (statement c.args.s.now) (trees.Continue c.in-Continue.at)
    (environment c.args.env.now t.around) (ap statement c.in-Continue.is
    ∙ read.continue_is c.in-Continue.at)
    refl (c.continue_from.ensures t.around t.block) q) c.one-in-Continue.ensures

pub statement-returns-in-Leave : goal.statement-returns-in-Leave
statement-returns-in-Leave _ c =
    let t = c.args.names.now in
    IfOk-weaker c.one-in-Leave.result _ _
    (λ list q.
    one_is t t c.args.state.now c.leave_from.new.state c.leave_from.result
    (map checked.statement list.items) (statement c.args.s.now) (trees.Leave c.in-Leave.at)
    (environment c.args.env.now t.around) (ap statement c.in-Leave.is ∙ read.leave_is c.in-Leave.at)
    refl (c.leave_from.ensures t.around t.block) q) c.one-in-Leave.ensures

pub try_statement-returns-in-Ok-items : goal.try_statement-returns-in-Ok-items
try_statement-returns-in-Ok-items _ c =
    let x = c.in-TryExcept in
    let w = c.args.state.now in
    let w1 : FunctionState = record {
      sizes = w.sizes;
      variables = w.variables;
      number = w.number;
      faults = c.filter_value.new.faults;
    } in
    let w2 = c.items.new.state in
    let w3 = c.numbered.new.state in
    let w4 = c.items-in-Ok.new.state in
    let t = c.args.names.now in
    let a = environment c.args.env.now t.around in
    let here = inside a t.block in
    let f = c.in_ok-filter-in-Ok in
    let vs = c.in-Ok in
    let ks = c.in-Ok-items in
    let q = c.in_ok-answer-in-TryExcept in
    let t1 = c.items.new.names in
    let t2 = c.items-in-Ok.new.names in
    let m = block_in t t1 w1 w2 vs.body.items c.deref.result.now x.body.items
    (environment c.in_body.result (t.block ∷ t.around)) (in_body here) (numbering w1)
    c.deref.ensures.value (c.in_body.ensures (t.block ∷ t.around)) vs.ensures in
    let k0 = subst (λ (q : SymbolTable). MakesBlock q t2 w3 w4 ks.handler.items (resolve_statements
    (statements (map statement c.deref-in-Ok.result.now))
    (environment c.in_handler.result (q.block ∷ q.around)) [] (numbering w3))) vs.ensures.names
    ks.ensures in
    let k = block_in t t2 w3 w4 ks.handler.items c.deref-in-Ok.result.now x.handler.items
    (environment c.in_handler.result (t.block ∷ t.around)) (in_handler here) (numbering w3)
    c.deref-in-Ok.ensures.value (c.in_handler.ensures (t.block ∷ t.around)) k0 in
    let body = statements (map statement x.body.items) in
    let handler = statements (map statement x.handler.items) in
    IfOk-weaker c.one.result _ _
    (λ list h.
    one_is t t2 w w4 c.except_of.result (map checked.statement list.items) (statement c.args.s.now)
    (trees.TryExcept body x.at (expression x.filter) handler) a
    (ap statement x.is ∙ read.try_except_is x.body x.at x.filter x.handler) k.names
    (except_is t t1 t2 t.block w w1 w2 w3 w4 q.answer f.filter vs.body.items ks.handler.items
    c.except_of.result a body x.at (expression x.filter) handler refl q.ensures m f.ensures.filter
    f.ensures.counts f.ensures.faults k c.except_of.ensures) h)
    c.one.ensures

pub try_statement-returns-in_ok-finally_block-in-TryFinally :
    goal.try_statement-returns-in_ok-finally_block-in-TryFinally
try_statement-returns-in_ok-finally_block-in-TryFinally _ c =
    let x = c.in-TryFinally in
    let w = c.args.state.now in
    let w1 = c.items-in-TryFinally.new.state in
    let w2 = c.next_number.new.self in
    let w3 = c.items-in-TryFinally-2.new.state in
    let t = c.args.names.now in
    let a = environment c.args.env.now t.around in
    let here = inside a t.block in
    let n = c.in_ok-number-in-TryFinally in
    let vs = c.in_ok-body-in-TryFinally in
    let ks = c.in_ok-finally_block-in-TryFinally in
    let t1 = c.items-in-TryFinally.new.names in
    let t2 = c.items-in-TryFinally-2.new.names in
    let m = block_in t t1 w w1 vs.body.items c.deref-in-TryFinally.result.now x.body.items
    (environment c.in_body-in-TryFinally.result (t.block ∷ t.around)) (in_body here) (numbering w)
    c.deref-in-TryFinally.ensures.value (c.in_body-in-TryFinally.ensures (t.block ∷ t.around))
    vs.ensures in
    let k0 = subst (λ (q : SymbolTable). MakesBlock q t2 w2 w3 ks.finally_block.items
    (resolve_statements
    (statements (map statement c.deref-in-TryFinally-2.result.now))
    (environment c.in_finally.result (q.block ∷ q.around)) [] (numbering w2))) vs.ensures.names
    ks.ensures in
    let k = block_in t t2 w2 w3 ks.finally_block.items c.deref-in-TryFinally-2.result.now
    x.finally_block.items
    (environment c.in_finally.result (t.block ∷ t.around)) (in_finally here) (numbering w2)
    c.deref-in-TryFinally-2.ensures.value (c.in_finally.ensures (t.block ∷ t.around)) k0 in
    let body = statements (map statement x.body.items) in
    let last = statements (map statement x.finally_block.items) in
    IfOk-weaker c.one-in-TryFinally.result _ _
    (λ list h.
    one_is t t2 w w3 c.finally_of.result (map checked.statement list.items) (statement c.args.s.now)
    (trees.TryFinally body x.at last) a (ap statement x.is
    ∙ read.try_finally_is x.body x.at x.finally_block) k.names
    (finally_is t t1 t2 t.block w w1 w2 w3 vs.body.items ks.finally_block.items n.number
    c.finally_of.result
    a body x.at last m n.ensures.number n.ensures.counts n.ensures.faults k c.finally_of.ensures) h)
    c.one-in-TryFinally.ensures

pub statements-loop-s-preserved : goal.statements-loop-s-preserved
statements-loop-s-preserved _ c =
    let s = c.loop-s in
    let list = c.args.list.now in
    let t = c.args.names.now in
    let w = c.args.state.now in
    goes c.args.env.now list s.s-index c.s-item.result t s.names c.statement.new.names w s.state
    c.statement.new.state s.made.items c.append.new.self.items c.in_ok-more.more.items
    (resolved_from (environment c.args.env.now t.around) list t.block (numbering w))
    c.loop-s-test.true c.s-item.is c.in_ok-append.ensures.items
    c.in_ok-more.ensures s.invariant.0 s.invariant.1

pub statements-returns : goal.statements-returns
statements-returns _ c =
    let s = c.loop-s in
    let list = c.args.list.now in
    let t = c.args.names.now in
    let w = c.args.state.now in
    let a = environment c.args.env.now t.around in
    let past : length list ≤ s.s-index = omega (arith, c.loop-s-test.false) in
    gone a list s.s-index t s.names w s.state s.made.items
    (resolved_from a list t.block (numbering w)) past s.invariant.0 s.invariant.1
