use Rattle.std.proofs.Common.{◌∙◌, true, sym, ap, arith}
use Rattle.seh_num.specs.Widths.{bytes_of}
use Rattle.flat_memory.specs.Memory.{access, unless_refused, with_bytes, with_number}
use Rattle.x64_memory.specs.Pages.{paged}
use Rattle.x64_replay.specs.PageTrees.{pages_of}
use Rattle.x64_replay.proofs.Trees.{rest_writable}
use Rattle.x64_replay.proofs.map_space.MapSpacePaged.put_if.Goals as goal

pub returns-clause-granted : goal.returns-clause-granted
returns-clause-granted c _ =
    let count = c.bytes.ensures.value in
    ap (λ o. access true o tt) (rest_writable (pages_of c.args.self.now.pages)
    (bytes_of c.args.width) c.args.at (omega arith) (omega arith)
    (sym c.is_writable.ensures ∙ c.if-not-is_writable.false))

pub returns-clause-put : goal.returns-clause-put
returns-clause-put c _ =
    let count = c.bytes.ensures.value in
    let n = bytes_of c.args.width in
    let m = paged (pages_of c.args.self.now.pages) in
    c.put.ensures
    ∙ sym (ap (λ o. unless_refused o (with_bytes m (with_number m.byte n c.args.at c.args.value)) m)
    (rest_writable (pages_of c.args.self.now.pages) n c.args.at (omega arith) (omega arith)
    (sym c.is_writable.ensures ∙ c.if-not-is_writable.false)))
