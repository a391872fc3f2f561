use Rattle.std.proofs.Common.{ap, refl, ◌∙◌, arith}
use Rattle.unwind_check.specs.Faults.{info_fault}
use Rattle.unwind_check.specs.Verdicts.{ImageCode}
use Rattle.unwind_check.proofs.TableEntries.{says_of}
use Rattle.unwind_check.proofs.validation.entry_verdict.Goals as goal

pub returns-clause-verdict : goal.returns-clause-verdict
returns-clause-verdict g c =
    let code : ImageCode = record {
      memory = g.S.CodeSpace.memory c.args.space.now;
      probe = c.args.probe.now;
      ranges = c.args.tables.now.ranges;
    } in
    says_of code c.args.tables.now c.args.index c.range-range.result c.args.info.now
    (record { begin = c.range-range.result.begin; fault = c.in_ok-fault.fault }) refl
    c.requires.whole c.requires.within c.range-range.ensures c.requires.own
    (omega (arith, c.range-range.type_inv.1.1.1.0.1))
    refl (c.in_ok-fault.ensures.fault ∙ ap (info_fault code.memory code.probe
    c.range-range.result.begin c.range-range.result.end c.args.info.now c.args.info.now.parent)
    c.info_named-named.ensures) c.in_ok-fault.ensures.near
