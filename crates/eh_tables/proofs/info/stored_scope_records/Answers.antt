use Rattle.std.proofs.Common.{◌≡◌, ◌+◌, ◌-◌, ◌*◌, Ok, Err, take, drop, ap, arith}
use Rattle.eh_tables.specs.declared.refusal.TableErr.TheVariants as refusals
use Rattle.eh_tables.proofs.RecordPlaces.{rows_cut, rows_whole, rows_placed, by_handler}
use Rattle.eh_tables.proofs.info.stored_scope_records.Goals as goal

pub returns-then-stored-end-clause-answer : goal.returns-then-stored-end-clause-answer
returns-then-stored-end-clause-answer c =
    let at = c.slots_end-at.result + 4 in
    let xs = c.bytes_from-stored.result.now in
    by_handler c.args.image.now c.args.rva at c.args.bytes.now c.args.has_c_handler
    (Err (refusals.Truncated c.args.rva)) c.if-not-has_c_handler.false c.requires.handler
    (ap (λ n. n + 4) c.slots_end-at.ensures.value)
    (rows_cut c.args.image.now c.args.rva at xs c.bytes_from-stored.ensures.value c.u32_at.result
    c.u32_at.ensures c.if-stored-rows.false c.if-stored-end.true)

pub returns-clause-answer : goal.returns-clause-answer
returns-clause-answer c =
    let at = c.slots_end-at.result + 4 in
    let xs = c.bytes_from-stored.result.now in
    let size = at + 4 + 16 * c.u32_at.result - (at + 4) in
    let all : size ≡ 16 * c.u32_at.result = omega arith in
    let fits = c.if-stored-end.false in
    by_handler c.args.image.now c.args.rva at c.args.bytes.now c.args.has_c_handler
    (Ok (take size (drop (at + 4) xs))) c.if-not-has_c_handler.false c.requires.handler
    (ap (λ n. n + 4) c.slots_end-at.ensures.value)
    (rows_whole c.args.image.now c.args.rva at xs c.bytes_from-stored.ensures.value
    c.u32_at.result size c.u32_at.ensures all (omega arith))

pub returns-clause-placed : goal.returns-clause-placed
returns-clause-placed c =
    let at = c.slots_end-at.result + 4 + 4 in
    let size = at + 16 * c.u32_at.result - at in
    let fits = c.if-stored-end.false in
    let is = c.slots_end-at.ensures.value in
    rows_placed c.args.image.now c.args.rva at c.bytes_from-stored.result.now
    c.bytes_from-stored.ensures.value size _ c.bytes_from-stored.ensures.ascending (omega arith)
    (omega arith)
