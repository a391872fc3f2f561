use Rattle.std.proofs.Common.{rules, ◌≡◌, ◌-◌, [], ◌∷◌, List, drop, sym, ap, ◌∙◌, arith}
use Rattle.eh_tables.specs.Found.{function_entry}
use Rattle.std.specs.Prelude.{option_map}
use Rattle.seh_dispatch.specs.Words.{ScopeRecord, entries_of, holding, functions_of, entry_of, distance, rows_of, row_before}
use Rattle.seh_dispatch.proofs.FilterRows.{rows_found, row_zero, row_some, row_none}
use Rattle.seh_dispatch.proofs.answering.asked_row.Goals as goal

pub returns-then-dispatch-eq0 : goal.returns-then-dispatch-eq0
returns-then-dispatch-eq0 c = sym (row_zero (rows_of
    (entry_of (functions_of c.args.tables.now) c.args.dispatch.now.walk.rip))
    c.args.dispatch.now.row c.if-dispatch-eq0.true)

pub returns-in-None-next : goal.returns-in-None-next
returns-in-None-next c =
    let d = c.args.dispatch.now in
    let h : c.skipped-left.result ≡ [] = search rules in
    let found = c.in-Some.ensures ∙ ap (λ b. option_map function_entry
    (holding (distance b d.walk.rip) (entries_of c.args.tables.now))) c.base.ensures in
    sym (row_none c.in-Some.entry.info.scopes d.row (d.row - 1)
    (let z = c.if-dispatch-eq0.false in omega arith)
    (ap (drop (d.row - 1)) (sym c.scopes.ensures.value) ∙ sym c.skipped-left.ensures.value ∙ h))
    ∙ ap (λ (rows : List ScopeRecord). row_before rows d.row)
    (sym (rows_found c.in-Some.entry (entry_of (functions_of c.args.tables.now) d.walk.rip) found))

pub returns-in-Some-next : goal.returns-in-Some-next
returns-in-Some-next c =
    let d = c.args.dispatch.now in
    let h : c.skipped-left.result ≡ c.in-Some-next.row ∷ c.next.new.self = search rules in
    let found = c.in-Some.ensures ∙ ap (λ b. option_map function_entry
    (holding (distance b d.walk.rip) (entries_of c.args.tables.now))) c.base.ensures in
    sym (row_some c.in-Some.entry.info.scopes d.row (d.row - 1) c.in-Some-next.row c.next.new.self
    (let z = c.if-dispatch-eq0.false in omega arith)
    (ap (drop (d.row - 1)) (sym c.scopes.ensures.value) ∙ sym c.skipped-left.ensures.value ∙ h))
    ∙ ap (λ (rows : List ScopeRecord). row_before rows d.row)
    (sym (rows_found c.in-Some.entry (entry_of (functions_of c.args.tables.now) d.walk.rip) found))
