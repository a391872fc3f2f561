use Rattle.std.proofs.Common.{rules, ◌≡◌, ◌+◌, ◌-◌, true, false, length, take, drop, set, ap, ◌∙◌, arith}
use Rattle.eh_tables.specs.Scopes.{scope_records_in}
use Rattle.seh_views.specs.declared.c_types.SehScope.{SehScope}
use Rattle.seh_views.specs.Scopes.{is_around, scopes_from}
use Rattle.seh_views.proofs.RowsFilled.{row_passed, row_written, no_room}
use Rattle.seh_views.proofs.named_scopes.fill_rows.Goals as goal

pub returns-then-scopes-count : goal.returns-then-scopes-count
returns-then-scopes-count c =
    let l = c.loop-rest in
    let s = c.record-row.result in
    let around : is_around c.args.rva s ≡ true = search rules in
    no_room c.args.rva l.count l.scopes l.rest.now s c.loop-rest-test.true c.record-row.ensures
    around c.if-scopes-count.true ∙ l.invariant.rest

pub loop-rest-preserved-then-is_around : goal.loop-rest-preserved-then-is_around
loop-rest-preserved-then-is_around c =
    let l = c.loop-rest in
    let s = c.record-row.result in
    let around : is_around c.args.rva s ≡ true = search rules in
    let room = c.if-scopes-count.false in
    record {
      room = search rules;
      rest = ap (λ (x : SehScope). scopes_from c.args.rva (l.count + 1)
          (scope_records_in (take (length l.rest.now - 16) (drop 16 l.rest.now)))
          (set l.scopes l.count x)) c.c_scope.ensures
          ∙ row_written c.args.rva l.count l.scopes l.rest.now s c.loop-rest-test.true
          c.record-row.ensures around (omega arith) ∙ l.invariant.rest;
    }

pub loop-rest-preserved : goal.loop-rest-preserved
loop-rest-preserved c =
    let l = c.loop-rest in
    let s = c.record-row.result in
    let around : is_around c.args.rva s ≡ false = search rules in
    record {
      room = search rules;
      rest = row_passed c.args.rva l.count l.scopes l.rest.now s c.loop-rest-test.true
          c.record-row.ensures around ∙ l.invariant.rest;
    }
