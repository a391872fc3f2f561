use Rattle.std.proofs.Common.{List, sym, ap, subst, ◌∙◌}
use Rattle.seh_num.specs.Answers.{◌>>=◌}
use Rattle.pe_image.specs.Image.{Image}
use Rattle.eh_tables.specs.declared.range.RuntimeFunction.{RuntimeFunction}
use Rattle.eh_tables.specs.Answer.{Table}
use Rattle.eh_tables.specs.Tables.{entries, entries_of}
use Rattle.unwind_check.specs.EntryVerdicts.{AreEntryVerdicts}
use Rattle.image_code.specs.Code.{code_of}
use Rattle.image_code.specs.Verdicts.{ranges_or_none}
use Rattle.image_code.proofs.validation.validate_image_entries.Goals as goal

pub returns-in-Ok-validate_entries-clause-verdicts :
    goal.returns-in-Ok-validate_entries-clause-verdicts
returns-in-Ok-validate_entries-clause-verdicts c =
    let image = c.args.image.now in
    let t = c.in_ok-tables.tables in
    let listed = ap ranges_or_none c.in_ok-tables.ensures.read.0 in
    let judged = subst (λ i. AreEntryVerdicts (record {
      memory = code_of i;
      probe = c.args.probe.now;
      ranges = t.ranges;
    }) (entries_of t) c.in-Ok-validate_entries.verdicts.items) c.in-Ok.ensures
    c.in-Ok-validate_entries.ensures in
    record {
      entries = entries_of t;
      read = ap (λ (r : Table (List RuntimeFunction)). r >>= λ rs. entries image 0 0 rs)
          c.in_ok-tables.ensures.read.0
          ∙ ap (λ (i : Image). entries i 0 0 t.ranges) (sym c.in_ok-tables.ensures.read.1)
          ∙ c.in_ok-tables.ensures.whole.whole;
      are = subst (λ rs. AreEntryVerdicts (record {
        memory = code_of image;
        probe = c.args.probe.now;
        ranges = rs;
      }) (entries_of t) c.in-Ok-validate_entries.verdicts.items) (sym listed) judged;
    }
