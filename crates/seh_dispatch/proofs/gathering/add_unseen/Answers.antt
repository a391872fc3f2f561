use Rattle.std.proofs.Common.{◌≡◌, ◌-◌, List, length, take, drop, sym, ap, subst, ◌∙◌, arith}
use Rattle.eh_tables.specs.Records.{AreAt, scope_records_rva}
use Rattle.eh_tables.specs.declared.range.RuntimeFunction.{RuntimeFunction}
use Rattle.seh_dispatch.specs.Words.{ScopeRecord, of_rows, funclets_of}
use Rattle.seh_dispatch.proofs.SeenRows.{row_reached, rows_stay_seen, table_seen, rows_done}
use Rattle.seh_dispatch.proofs.gathering.add_unseen.Goals as goal

pub next_unseen-from-requires-clause-fits : goal.next_unseen-from-requires-clause-fits
next_unseen-from-requires-clause-fits c = omega (
  arith,
  c.scope_records_rva-at.ensures.fits,
  c.scopes.ensures.fits,
  c.len-count.ensures,
)

pub add-requires : goal.add-requires
add-requires c = omega (
  arith,
  c.scope_records_rva-at.ensures.fits,
  c.scopes.ensures.fits,
  c.len-count.ensures,
)

pub loop-row-preserved : goal.loop-row-preserved
loop-row-preserved c =
    let image = c.args.tables.now.image in
    let rows = c.args.info.now.scopes in
    let fs = funclets_of c.loop-row.gathered.entries in
    let gs = funclets_of c.add_rows.new.gathered.entries in
    let from = c.next_unseen-from.result.0 in
    let to = c.next_unseen-from.result.1 in
    let place = c.scope_records_rva-at.ensures.value
    ∙ ap (λ (r : RuntimeFunction). scope_records_rva r.unwind_info c.args.info.now)
    c.range.ensures in
    let placed = subst (λ a. AreAt image a rows) (sym place) c.requires.placed in
    let all : c.len-count.result ≡ length rows = c.len-count.ensures ∙ ap length
    c.scopes.ensures.value in
    let part = c.first_rows.ensures ∙ ap (take (to - from)) (c.from_row.ensures
    ∙ ap (drop from) c.scopes-in-loop-row.ensures.value) in
    let is = c.in_ok-add_rows.ensures.items
    ∙ ap (λ (rs : List ScopeRecord). of_rows rs fs) part in
    record {
      within = c.next_unseen-from.ensures.to.1;
      ascending = c.in_ok-add_rows.ensures.ascending;
      seen = rows_stay_seen image c.args.seen.now c.scope_records_rva-at.result rows placed fs
          c.loop-row.invariant.seen (take (to - from) (drop from rows)) gs is;
      same = row_reached image c.args.seen.now c.scope_records_rva-at.result rows placed fs
          c.loop-row.invariant.seen c.loop-row.row from to gs c.loop-row.invariant.ascending
          c.next_unseen-from.ensures.from.0 c.next_unseen-from.ensures.from.1
          (omega (arith, all, c.next_unseen-from.ensures.to.1)) c.next_unseen-from.ensures.seen is
          ∙ c.loop-row.invariant.same;
    }

pub returns-clause-items : goal.returns-clause-items
returns-clause-items c =
    let rows = c.args.info.now.scopes in
    let all : c.len-count.result ≡ length rows = c.len-count.ensures ∙ ap length
    c.scopes.ensures.value in
    rows_done c.loop-row.row rows (funclets_of c.args.gathered.now.entries)
    (funclets_of c.loop-row.gathered.entries) (omega (arith, all, c.loop-row-test.false))
    c.loop-row.invariant.same

pub returns-clause-seen : goal.returns-clause-seen
returns-clause-seen c =
    let image = c.args.tables.now.image in
    let rows = c.args.info.now.scopes in
    let fs = funclets_of c.args.gathered.now.entries in
    let gs = funclets_of c.loop-row.gathered.entries in
    let place = c.scope_records_rva-at.ensures.value
    ∙ ap (λ (r : RuntimeFunction). scope_records_rva r.unwind_info c.args.info.now)
    c.range.ensures in
    let placed = subst (λ a. AreAt image a rows) (sym place) c.requires.placed in
    let all : c.len-count.result ≡ length rows = c.len-count.ensures ∙ ap length
    c.scopes.ensures.value in
    table_seen image c.args.seen.now c.scope_records_rva-at.result rows placed c.add.new.self
    c.len-count.result fs gs all (rows_done c.loop-row.row rows fs gs
    (omega (arith, all, c.loop-row-test.false)) c.loop-row.invariant.same)
    c.loop-row.invariant.seen c.add.ensures
