use Rattle.std.proofs.Common.{◌≡◌, ◌-◌, length, take, drop, sym, ap, subst, ◌∙◌, arith}
use Rattle.eh_tables.specs.Records.{AreAt}
use Rattle.eh_tables.specs.Scopes.{checked}
use Rattle.eh_tables.proofs.UnseenRecords.{row_passed, row_refused, past_rows, all_pass}
use Rattle.eh_tables.proofs.unseen.check_unseen.Goals as goal

pub next_unseen-from-requires-clause-fits : goal.next_unseen-from-requires-clause-fits
next_unseen-from-requires-clause-fits c = omega (
  arith,
  c.scope_records_rva-at.ensures.fits,
  c.scopes.ensures.fits,
  c.len-count.ensures,
)

pub add-requires : goal.add-requires
add-requires c = omega (
  arith,
  c.scope_records_rva-at.ensures.fits,
  c.scopes.ensures.fits,
  c.len-count.ensures,
)

pub returns-in-Err-clause-answer : goal.returns-in-Err-clause-answer
returns-in-Err-clause-answer c =
    let image = c.args.image.now in
    let rs = c.args.info.now.scopes in
    let from = c.next_unseen-from.result.0 in
    let to = c.next_unseen-from.result.1 in
    let placed = subst (λ a. AreAt image a rs) (sym c.scope_records_rva-at.ensures.value)
    c.requires.placed in
    let all : c.len-count.result ≡ length rs = c.len-count.ensures ∙ ap length
    c.scopes.ensures.value in
    let part = c.first_rows-rows.ensures ∙ ap (take (to - from)) (c.from_row.ensures
    ∙ ap (drop from) c.scopes-in-loop-row.ensures.value) in
    row_refused image c.args.seen.now c.args.index c.scope_records_rva-at.result rs c.requires.pass
    placed c.loop-row.row from to c.in-Err.refusal c.next_unseen-from.ensures.from.0
    (omega (arith, all, c.next_unseen-from.ensures.from.1, c.next_unseen-from.ensures.to.1))
    c.next_unseen-from.ensures.seen
    (c.in-Err.ensures ∙ ap (λ n. checked c.args.index n from c.first_rows-rows.result)
    c.size.ensures.value ∙ ap (checked c.args.index image.size from) part)
    ∙ c.loop-row.invariant.same

pub loop-row-preserved : goal.loop-row-preserved
loop-row-preserved c =
    let image = c.args.image.now in
    let rs = c.args.info.now.scopes in
    let from = c.next_unseen-from.result.0 in
    let to = c.next_unseen-from.result.1 in
    let placed = subst (λ a. AreAt image a rs) (sym c.scope_records_rva-at.ensures.value)
    c.requires.placed in
    let all : c.len-count.result ≡ length rs = c.len-count.ensures ∙ ap length
    c.scopes.ensures.value in
    let part = c.first_rows-rows.ensures ∙ ap (take (to - from)) (c.from_row.ensures
    ∙ ap (drop from) c.scopes-in-loop-row.ensures.value) in
    record {
      within = c.next_unseen-from.ensures.to.1;
      same = sym (row_passed image c.args.seen.now c.args.index c.scope_records_rva-at.result rs
          c.requires.pass placed c.loop-row.row from to c.in_default.field-0
          c.next_unseen-from.ensures.from.0 c.next_unseen-from.ensures.from.1
          (omega (arith, all, c.next_unseen-from.ensures.to.1)) c.next_unseen-from.ensures.seen
          (c.in_default.ensures ∙ ap (λ n. checked c.args.index n from c.first_rows-rows.result)
          c.size.ensures.value ∙ ap (checked c.args.index image.size from) part))
          ∙ c.loop-row.invariant.same;
    }

pub returns-clause-pass : goal.returns-clause-pass
returns-clause-pass c =
    let image = c.args.image.now in
    let rs = c.args.info.now.scopes in
    let placed = subst (λ a. AreAt image a rs) (sym c.scope_records_rva-at.ensures.value)
    c.requires.placed in
    let all : c.len-count.result ≡ length rs = c.len-count.ensures ∙ ap length
    c.scopes.ensures.value in
    all_pass image c.args.seen.now c.args.index c.scope_records_rva-at.result rs c.requires.pass
    placed c.add.new.self c.len-count.result all
    (sym (past_rows c.args.index image.size c.loop-row.row rs
    (omega (arith, all, c.loop-row-test.false))) ∙ c.loop-row.invariant.same) c.add.ensures
