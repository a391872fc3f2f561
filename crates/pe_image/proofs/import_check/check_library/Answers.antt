use Rattle.std.proofs.Common.{◌≡◌, ℕ, ◌+◌, ◌-◌, ◌*◌, List, length, sym, ap, subst, ◌∙◌, arith}
use Rattle.pe_image.specs.Imports.{import_at, library, max_count, counted}
use Rattle.pe_image.specs.Names.{EndsAt}
use Rattle.pe_image.proofs.Imported.{refused_at, no_entries_left, entry_missing, entries_end, import_missing, import_counted, counted_none}
use Rattle.pe_image.proofs.import_check.check_library.Goals as goal

pub returns-in_default-clause-count : goal.returns-in_default-clause-count
returns-in_default-clause-count c =
    let l = c.loop-n in
    sym l.invariant.so_far
    ∙ ap (counted (c.args.index + l.n)) (entry_missing c.args.sections.now (c.args.index + l.n)
    (c.args.lookups + 8 * l.n) (c.args.slots + 8 * l.n) (max_count - l.n) (max_count - (l.n + 1))
    (omega arith) (sym c.in_default.ensures))

pub returns-then-entry-eq0-clause-count : goal.returns-then-entry-eq0-clause-count
returns-then-entry-eq0-clause-count c =
    let l = c.loop-n in
    sym l.invariant.so_far
    ∙ ap (counted (c.args.index + l.n)) (entries_end c.args.sections.now (c.args.index + l.n)
    (c.args.lookups + 8 * l.n) (c.args.slots + 8 * l.n) (max_count - l.n) (max_count - (l.n + 1))
    c.in-Some.entry.now (omega arith) (sym c.in-Some.ensures)
    (sym c.u64_at-entry.ensures ∙ c.if-entry-eq0.true))
    ∙ counted_none (c.args.index + l.n)

pub returns-in_default-read_import-clause-count : goal.returns-in_default-read_import-clause-count
returns-in_default-read_import-clause-count c =
    let l = c.loop-n in
    sym l.invariant.so_far
    ∙ ap (counted (c.args.index + l.n)) (import_missing c.args.sections.now (c.args.index + l.n)
    (c.args.lookups + 8 * l.n) (c.args.slots + 8 * l.n) (max_count - l.n) (max_count - (l.n + 1))
    c.in-Some.entry.now (omega arith) (sym c.in-Some.ensures)
    (λ z. c.if-entry-eq0.false (c.u64_at-entry.ensures ∙ z))
    (ap (import_at c.args.sections.now (c.args.slots + 8 * l.n)) (sym c.u64_at-entry.ensures)
    ∙ sym c.read_import.ensures.import ∙ c.in_default-read_import.is))

pub loop-n-preserved : goal.loop-n-preserved
loop-n-preserved c =
    let l = c.loop-n in
    let i = c.in-Some-read_import.import in
    let m = max_count - (l.n + 1) in
    let ss = c.args.sections.now in
    let index : c.args.index + (l.n + 1) ≡ c.args.index + l.n + 1 = omega arith in
    let look : c.args.lookups + 8 * (l.n + 1) ≡ c.args.lookups + 8 * l.n + 8 = omega arith in
    let slot : c.args.slots + 8 * (l.n + 1) ≡ c.args.slots + 8 * l.n + 8 = omega arith in
    let from : ℕ = c.u64_at-entry.result + 2 in
    record {
      so_far =
          ap (λ k. counted k (library m ss k (c.args.lookups + 8 * (l.n + 1))
          (c.args.slots + 8 * (l.n + 1)))) index
          ∙ ap (λ k. counted (c.args.index + l.n + 1) (library m ss (c.args.index + l.n + 1) k
          (c.args.slots + 8 * (l.n + 1)))) look
          ∙ ap (λ k. counted (c.args.index + l.n + 1) (library m ss (c.args.index + l.n + 1)
          (c.args.lookups + 8 * l.n + 8) k)) slot
          ∙ import_counted ss (c.args.index + l.n) (c.args.lookups + 8 * l.n)
          (c.args.slots + 8 * l.n) (max_count - l.n) m c.in-Some.entry.now i (omega arith)
          (sym c.in-Some.ensures) (λ z. c.if-entry-eq0.false (c.u64_at-entry.ensures ∙ z))
          (ap (import_at ss (c.args.slots + 8 * l.n)) (sym c.u64_at-entry.ensures)
          ∙ sym c.read_import.ensures.import ∙ c.in-Some-read_import.is)
          ∙ l.invariant.so_far;
      ends = c.in_ok-keep_end.ensures ss l.invariant.ends
          (subst (λ (name : List ℕ). EndsAt ss (c.u64_at-entry.result + 2)
          (c.u64_at-entry.result + 2 + length name)) (sym c.name-name.ensures)
          c.in-Some-read_import.ensures.end);
    }

pub returns-clause-count : goal.returns-clause-count
returns-clause-count c =
    let l = c.loop-n in
    sym l.invariant.so_far
    ∙ ap (counted (c.args.index + l.n)) (no_entries_left (max_count - l.n) c.args.sections.now
    (c.args.index + l.n) (c.args.lookups + 8 * l.n) (c.args.slots + 8 * l.n) (omega arith))
    ∙ refused_at (c.args.index + l.n) (c.args.index + max_count) (omega arith)

pub overflow_add-from-in-loop-n : goal.overflow_add-from-in-loop-n
overflow_add-from-in-loop-n c =
    let same = ap length c.name-name.ensures in
    omega (arith, same, c.in-Some-read_import.ensures.fits)
