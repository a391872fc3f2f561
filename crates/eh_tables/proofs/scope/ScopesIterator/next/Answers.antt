use Rattle.std.proofs.Common.{length, sym, ap, ◌∙◌, ◌∷◌, arith}
use Rattle.eh_tables.specs.Words.{ScopeRecord, scope_records_in}
use Rattle.std.proofs.Common.{◌-◌, take, drop}
use Rattle.eh_tables.proofs.Rows.{first_row}
use Rattle.eh_tables.proofs.scope.ScopesIterator.next.Goals as goal

pub returns-clause-steps : goal.returns-clause-steps
returns-clause-steps c =
    let xs = c.self.inside.rows.now in
    sym c.self.view_is ∙ first_row xs c.if-self-lt-SCOPE_RECORD_SIZE.false
    ∙ ap (λ (r : ScopeRecord). r ∷ scope_records_in (take (length xs - 16) (drop 16 xs)))
    (sym c.read-row.ensures)

pub returns-clause-goes : goal.returns-clause-goes
returns-clause-goes c =
    let e = ap length (sym c.self.view_is ∙ first_row c.self.inside.rows.now
    c.if-self-lt-SCOPE_RECORD_SIZE.false) in
    record { on = λ _. (tt, tt, omega arith); keeps = tt; rests = λ _. tt }
