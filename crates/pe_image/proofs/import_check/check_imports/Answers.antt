use Rattle.std.proofs.Common.{◌+◌, ◌-◌, ◌*◌, sym, ap, ◌∙◌, refl, arith}
use Rattle.std.specs.Prelude.{is_ok}
use Rattle.std.proofs.lemmas.Result.{err_from_is_err_and}
use Rattle.pe_image.specs.Imports.{libraries, max_count, counted}
use Rattle.pe_image.proofs.Imported.{with_directory, no_libraries_left, descriptor_missing, libraries_end, library_counted, whole_refused, counted_none, counted_ok, counted_refused}
use Rattle.pe_image.proofs.import_check.check_imports.Goals as goal

pub returns-in_default-clause-refused : goal.returns-in_default-clause-refused
returns-in_default-clause-refused c =
    let l = c.loop-n in
    with_directory c.args.sections.now c.args.directory _ c.if-directory-eq0.false
    (counted_refused 0 (libraries max_count c.args.sections.now 0 c.args.directory.rva) _
    (sym l.invariant.so_far ∙ ap (counted l.index) (descriptor_missing c.args.sections.now l.index
    (c.args.directory.rva + 20 * l.n) (max_count - l.n) (max_count - (l.n + 1)) (omega arith)
    (sym c.in_default.ensures))))

pub returns-then-is_zero-clause-read : goal.returns-then-is_zero-clause-read
returns-then-is_zero-clause-read c =
    let l = c.loop-n in
    let all = libraries max_count c.args.sections.now 0 c.args.directory.rva in
    ap is_ok (with_directory c.args.sections.now c.args.directory
    (libraries max_count c.args.sections.now 0 c.args.directory.rva) c.if-directory-eq0.false refl)
    ∙ counted_ok 0 l.index (libraries max_count c.args.sections.now 0 c.args.directory.rva)
    (sym l.invariant.so_far ∙ ap (counted l.index) (libraries_end c.args.sections.now l.index
    (c.args.directory.rva + 20 * l.n) (max_count - l.n) (max_count - (l.n + 1))
    c.in-Some.descriptor.now (omega arith) (sym c.in-Some.ensures)
    (sym c.is_zero.ensures ∙ c.if-is_zero.true)) ∙ counted_none l.index)

pub returns-in_err-index-clause-refused : goal.returns-in_err-index-clause-refused
returns-in_err-index-clause-refused c =
    let l = c.loop-n in
    let p = err_from_is_err_and c.from_residual.result c.from_residual.ensures.1 in
    rw (p.1, p.2) (whole_refused c.args.sections.now c.args.directory l.index
    (c.args.directory.rva + 20 * l.n) (max_count - l.n) (max_count - (l.n + 1)) _ _
    c.in-Some.descriptor.now c.if-directory-eq0.false (omega arith) (sym c.in-Some.ensures)
    (sym c.is_zero.ensures ∙ c.if-is_zero.false) c.lookups-lookups.ensures.value
    c.slots.ensures.value l.invariant.so_far c.in_err-index.field-0.0 c.in_err-index.ensures.count)

pub loop-n-preserved : goal.loop-n-preserved
loop-n-preserved c =
    let l = c.loop-n in
    record {
      so_far =
          library_counted c.args.sections.now l.index (c.args.directory.rva + 20 * l.n)
          (max_count - l.n) (max_count - (l.n + 1)) _ _ c.in-Some.descriptor.now (omega arith)
          (sym c.in-Some.ensures) (sym c.is_zero.ensures ∙ c.if-is_zero.false)
          c.lookups-lookups.ensures.value c.slots.ensures.value c.in_ok-index.index
          (c.args.directory.rva + 20 * (l.n + 1)) c.in_ok-index.ensures.count (omega arith)
          ∙ l.invariant.so_far;
      few = omega (arith, c.in_ok-index.ensures.few, l.invariant.few);
      ends = c.in_ok-index.ensures.ends;
    }

pub returns-clause-refused : goal.returns-clause-refused
returns-clause-refused c =
    let l = c.loop-n in
    with_directory c.args.sections.now c.args.directory _ c.if-directory-eq0.false
    (counted_refused 0 (libraries max_count c.args.sections.now 0 c.args.directory.rva) _
    (sym l.invariant.so_far ∙ ap (counted l.index) (no_libraries_left (max_count - l.n)
    c.args.sections.now l.index (c.args.directory.rva + 20 * l.n) (omega arith))))
