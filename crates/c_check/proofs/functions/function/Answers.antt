use Rattle.std.proofs.Common.{◌≡◌, [], ap, refl, ◌∙◌, drop, length}
use Rattle.c_check.proofs.FunctionsInOrder.{ends_as_before, function_inside}
use Rattle.c_check.proofs.functions.function.Goals as goal
use Rattle.c_check.specs.Words.{SymbolTable, opened, with_block, with_parameters}
use Rattle.c_checked.specs.Statement as checked
use Rattle.std.specs.Prelude.{map, ◌++◌}
use Rattle.c_resolved.specs.Layout.{layout_of, base_local}
use Rattle.c_syntax.specs.Statement as trees

pub returns-clause-names : goal.returns-clause-names
returns-clause-names c =
    ends_as_before c.args.names.now c.open.new.self c.declare_all.new.names c.body.new.names
    c.close.new.self (with_parameters c.args.text.now c.args.list.now [] 0) _
    c.in_ok-open.ensures.opened c.in_ok-declare_all.ensures.names c.in_ok-made.ensures.names
    c.close.ensures

pub returns-clause-added : goal.returns-clause-added
returns-clause-added c =
    let text = c.args.text.now in
    let t = c.args.names.now in
    let list = c.args.list.now in
    let block = with_parameters text list [] 0 in
    let name = c.in_ok-from_slice.ensures.items ∙ c.spelled.ensures in
    let parameters = c.in_ok-sizes_of-2.ensures in
    let returns = c.result_size.ensures in
    let body = trees.statements (map trees.statement c.args.body.now) in
    let done = map checked.statement c.in_ok-made.made.items in
    let vs = c.body.new.state.variables.items in
    let layout = layout_of vs (checked.statements done) in
    let placed = c.in_ok-placed.ensures in
    let locals = placed.locals ∙ ap (λ k. k ++ base_local layout) (c.in_ok-locals.ensures
    ∙ ap (drop (length list)) c.deref.ensures.value) in
    let declared : c.declare_all.new.names ≡ with_block (opened t) block =
    c.in_ok-declare_all.ensures.names
    ∙ ap (λ (k : SymbolTable). with_block k block) c.in_ok-open.ensures.opened in
    function_inside c.args.progress.now _ text t c.declare_all.new.names c.body.new.names
    c.args.returns c.args.name list body _ c.body.new.state done _ declared
    c.in_ok-sizes_of.ensures c.in_ok-variables_of.ensures refl
    c.in_ok-declare_all.ensures.faults c.in_ok-made.ensures
    (λ i. record {
      name = name i;
      parameters = parameters i;
      locals = locals i;
      data_frame = placed.frame i;
      returns = returns i;
      body = placed.body i;
    })
    c.in_ok-push.ensures.items refl refl
