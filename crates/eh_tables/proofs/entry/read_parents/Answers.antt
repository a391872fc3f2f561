use Rattle.std.proofs.Common.{◌≡◌, ◌≢◌, ◌-◌, Some, None, List, length, sym, ap, ◌∙◌, arith, rules}
use Rattle.std.proofs.lemmas.Bool.{eqb-false}
use Rattle.std.proofs.lemmas.Grind.{common_steps}
use Rattle.std.specs.Prelude.{Option}
use Rattle.eh_tables.specs.Words.{onto, RuntimeFunction, Info, parents}
use Rattle.eh_tables.proofs.Chains.{chain_ends, chain_stops, chain_continues}
use Rattle.eh_tables.proofs.entry.read_parents.Goals as goal

pub returns-in_err-info : goal.returns-in_err-info
returns-in_err-info c =
    let xs = c.loop-parent.parents.items in
    let n = 31 - length xs in
    let room : length xs ≢ 31 = eqb-false (length xs) 31
    (sym c.is_full.ensures.value ∙ c.if-is_full.false) in
    let some : c.loop-parent.parent ≡ Some c.in-Some.range = c.in-Some.is in
    let stops = chain_stops n c.args.image.now c.args.index xs c.in-Some.range
    c.in_err-info.field-0.0 (omega arith) (sym c.in_err-info.ensures.answer) in
    let same = sym (ap (λ (p : Option RuntimeFunction). onto xs
    (parents n c.args.image.now c.args.index p)) some) ∙ c.loop-parent.invariant.same in
    let whole = sym stops ∙ same in
    grind (arith, common_steps)

pub loop-parent-preserved : goal.loop-parent-preserved
loop-parent-preserved c =
    let xs = c.loop-parent.parents.items in
    let n = 31 - length xs in
    let room : length xs ≢ 31 = eqb-false (length xs) 31
    (sym c.is_full.ensures.value ∙ c.if-is_full.false) in
    let some : c.loop-parent.parent ≡ Some c.in-Some.range = c.in-Some.is in
    let same = sym (ap (λ (p : Option RuntimeFunction). onto xs
    (parents n c.args.image.now c.args.index p)) some) ∙ c.loop-parent.invariant.same in
    let on = chain_continues n (31 - length c.push.new.self.items) c.args.image.now c.args.index xs
    c.in-Some.range c.in_ok-info.info (omega arith) (sym c.in_ok-info.ensures.answer) in
    record {
      room = omega arith;
      same =
          ap (λ (p : Option RuntimeFunction). onto c.push.new.self.items
          (parents (31 - length c.push.new.self.items) c.args.image.now c.args.index p))
          c.parent-parent.ensures
          ∙ ap (λ (t : List Info). onto t (parents (31 - length c.push.new.self.items)
          c.args.image.now c.args.index c.in_ok-info.info.parent)) c.push.ensures.items
          ∙ on ∙ same;
    }

pub returns : goal.returns
returns c =
    let xs = c.loop-parent.parents.items in
    let n = 31 - length xs in
    let none : c.loop-parent.parent ≡ None = search rules in
    sym (chain_ends n c.args.image.now c.args.index xs)
    ∙ sym (ap (λ (p : Option RuntimeFunction). onto xs
    (parents n c.args.image.now c.args.index p)) none) ∙ c.loop-parent.invariant.same
