use Rattle.std.proofs.Common.{◌≡◌, ℕ, ◌+◌, ◌++◌, ◌∷◌, [], List, length, true, false, sym, ap, ◌∙◌, arith}
use Rattle.pe_image.specs.Image.{Section}
use Rattle.pe_image.specs.Reading.{headers_from, placed, all_placed, section_of, sections_of, is_laid_out}
use Rattle.pe_image.proofs.Sections.{continues, stops, is_done, sections_rise, with_front, sections_from, placed_from}
use Rattle.pe_image.proofs.table.sections.Goals as goal

pub returns-then-not-is_laid_out-clause-answer : goal.returns-then-not-is_laid_out-clause-answer
returns-then-not-is_laid_out-clause-answer c =
    let not : is_laid_out (length c.args.bytes.now) c.args.limit c.loop-index.end
    c.placed-header.result ≡ false = sym c.is_laid_out.ensures ∙ c.if-not-is_laid_out.true in
    stops c.args.layout c.args.bytes.now c.args.limit c.loop-index.index c.loop-index.end c.args.at
    c.args.count c.placed-header.result c.loop-index.sections.items _ c.loop-index-test.true
    (c.placed-header.ensures ∙ ap (placed c.args.layout) c.read.ensures) c.loop-index.invariant not

pub loop-index-preserved : goal.loop-index-preserved
loop-index-preserved c =
    let fits : is_laid_out (length c.args.bytes.now) c.args.limit c.loop-index.end
    c.placed-header.result ≡ true = sym c.is_laid_out.ensures ∙ c.if-not-is_laid_out.false in
    let next = placed_from c.args.layout c.args.bytes.now c.args.count c.args.at
    (c.loop-index.index + 1) in
    let pushed : c.push.new.self.items ≡ c.loop-index.sections.items
    ++ section_of c.args.bytes.now c.placed-header.result ∷ [] = c.in_ok-push.ensures.items
    ∙ ap (λ (s : Section). c.loop-index.sections.items ++ s ∷ []) c.view.ensures in
    ap (λ (ss : List Section). with_front ss (sections_from c.args.bytes.now c.args.limit
    (c.loop-index.index + 1) c.end-end.result next)) pushed
    ∙ ap (λ (end : ℕ). with_front (c.loop-index.sections.items
    ++ section_of c.args.bytes.now c.placed-header.result ∷ [])
    (sections_from c.args.bytes.now c.args.limit (c.loop-index.index + 1) end next))
    c.end-end.ensures
    ∙ continues c.args.layout c.args.bytes.now c.args.limit c.loop-index.index c.loop-index.end
    c.args.at c.args.count c.placed-header.result c.loop-index.sections.items _
    c.loop-index-test.true (c.placed-header.ensures ∙ ap (placed c.args.layout) c.read.ensures)
    c.loop-index.invariant fits

pub returns-clause-ascending : goal.returns-clause-ascending
returns-clause-ascending c =
    let hs = all_placed c.args.layout (headers_from c.args.bytes.now c.args.count c.args.at) in
    sections_rise c.args.bytes.now c.args.limit hs c.loop-index.sections.items
    (is_done c.args.layout c.args.bytes.now c.args.limit c.loop-index.index c.loop-index.end
    c.args.at c.args.count c.loop-index.sections.items
    (sections_of c.args.bytes.now c.args.limit hs) (omega arith) c.loop-index.invariant)
