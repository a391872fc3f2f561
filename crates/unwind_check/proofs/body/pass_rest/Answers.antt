use Rattle.std.proofs.Common.{◌≡◌, ◌+◌, ◌-◌, ◌≤◌, ◌∷◌, List, length, sym, ap, subst, ◌∙◌, arith}
use Rattle.virtual_unwind.specs.Tail.{FetchedInstr, tail_at}
use Rattle.virtual_unwind.specs.Undone.{operations}
use Rattle.unwind_tails.specs.Instructions.{between}
use Rattle.frame_rules.specs.Body.{has}
use Rattle.unwind_check.specs.declared.rule.Rule.TheVariants.{Epilogue}
use Rattle.unwind_check.specs.Steps.{past_rest}
use Rattle.unwind_tails.specs.Tails.{counted, IsTail}
use Rattle.unwind_tails.proofs.Decoding.{first_items}
use Rattle.unwind_check.proofs.Fitting.{part_fits, part_stands}
use Rattle.unwind_tails.proofs.Rests.{none_counted}
use Rattle.unwind_check.proofs.Owned.{past_own, past_other}
use Rattle.unwind_check.proofs.OwnParts.{not_inside}
use Rattle.unwind_check.proofs.BodySteps.{plain_shown, error_shown, cleared_shown}
use Rattle.unwind_check.proofs.body.pass_rest.Goals as goal

pub returns-in_ok-passed-in-Missing-clause-step : goal.returns-in_ok-passed-in-Missing-clause-step
returns-in_ok-passed-in-Missing-clause-step g c rs h =
    let m = g.S.CodeSpace.memory c.args.space.now in
    let i = c.args.info.now in
    let at = c.args.at in
    let x = c.args.item.now in
    let rest = tail_at i.frame_register m at in
    let it = subst (IsTail (1 + length (between (g.S.CodeSpace.memory c.args.space.now)
    (c.args.at + c.args.item.now.size) c.args.end).items) (counted 0 (tail_at
    c.frame_register.result (g.S.CodeSpace.memory c.args.space.now) c.args.at))) c.in-Missing.is
    c.in_ok-tail.ensures.tail in
    let none = ap (λ f. counted 0 (tail_at f m at)) (sym c.frame_register.ensures)
    ∙ it in
    plain_shown m i at x (between m (at + x.size) c.args.end).items c.pass_plain.new.loaded.items rs
    c.in_ok-passed-in-Missing.passed rest (none_counted rest none)
    (c.in_ok-passed-in-Missing.ensures rs h)

pub returns-in-Outside-clause-step : goal.returns-in-Outside-clause-step
returns-in-Outside-clause-step g c rs h =
    let m = g.S.CodeSpace.memory c.args.space.now in
    let i = c.args.info.now in
    let at = c.args.at in
    let x = c.args.item.now in
    let xs = (between m (at + x.size) c.args.end).items in
    let zs = (between m at c.args.end).items in
    let inside = c.requires.first.inside in
    let low = c.requires.low in
    let le : at ≤ c.args.end = omega (arith, inside) in
    let z : zs ≡ x ∷ xs = first_items m c.args.end at x c.requires.first in
    let it = subst (IsTail (1 + length (between (g.S.CodeSpace.memory c.args.space.now)
    (c.args.at + c.args.item.now.size) c.args.end).items) (counted 0 (tail_at
    c.frame_register.result (g.S.CodeSpace.memory c.args.space.now) c.args.at))) c.in-Outside.is
    c.in_ok-tail.ensures.tail in
    let n = it.0 in
    let past = it.2 in
    let long = ap (λ (ys : List FetchedInstr). length ys) z in
    let fits = part_fits m at c.args.end le in
    error_shown c.args.loaded.now.items (record { at = at; rule = Epilogue })
    (past_rest i at rs x xs (tail_at i.frame_register m at))
    (past_other m i at rs x xs n zs z (part_stands m at c.args.end le) (omega (arith, fits, low))
    (sym (ap (λ f. counted 0 (tail_at f m at)) (sym c.frame_register.ensures) ∙ it.1))
    (sym (not_inside i.frame_register i.frame_offset (operations i.codes) rs zs n
    (omega (arith, past, long)))))

pub is_own-requires-clause-inside : goal.is_own-requires-clause-inside
is_own-requires-clause-inside g c =
    let m = g.S.CodeSpace.memory c.args.space.now in
    let long = ap (λ (ys : List FetchedInstr). length ys)
    (first_items m c.args.end c.args.at c.args.item.now c.requires.first) in
    let is = subst (IsTail (1 + length (between (g.S.CodeSpace.memory c.args.space.now)
    (c.args.at + c.args.item.now.size) c.args.end).items) (counted 0 (tail_at
    c.frame_register.result (g.S.CodeSpace.memory c.args.space.now) c.args.at))) c.in-Inside.is
    c.in_ok-tail.ensures.tail in
    let most = is.1 in
    omega (arith, long, most)

pub returns-then-own-clause-step : goal.returns-then-own-clause-step
returns-then-own-clause-step g c rs h =
    let m = g.S.CodeSpace.memory c.args.space.now in
    let i = c.args.info.now in
    let at = c.args.at in
    let x = c.args.item.now in
    let xs = (between m (at + x.size) c.args.end).items in
    let zs = (between m at c.args.end).items in
    let inside = c.requires.first.inside in
    let low = c.requires.low in
    let le : at ≤ c.args.end = omega (arith, inside) in
    let z : zs ≡ x ∷ xs = first_items m c.args.end at x c.requires.first in
    let fits = part_fits m at c.args.end le in
    let n = c.in-Inside.count in
    let is = subst (IsTail (1 + length (between (g.S.CodeSpace.memory c.args.space.now)
    (c.args.at + c.args.item.now.size) c.args.end).items) (counted 0 (tail_at
    c.frame_register.result (g.S.CodeSpace.memory c.args.space.now) c.args.at))) c.in-Inside.is
    c.in_ok-tail.ensures.tail in
    cleared_shown c.clear.new.self.items c.saturating_sub.result (n - 1)
    (past_rest i at rs x xs (tail_at i.frame_register m at)) c.clear.ensures.items
    c.saturating_sub.ensures
    (past_own m i at rs x xs n zs z (part_stands m at c.args.end le) (omega (arith, fits, low))
    (sym (ap (λ f. counted 0 (tail_at f m at)) (sym c.frame_register.ensures)
    ∙ is.0))
    (sym c.if-own.true ∙ c.in_ok-own-in-Inside.ensures rs
    (λ r. ap (has r) c.deref.ensures.value ∙ h r)))

pub returns-else-own-clause-step : goal.returns-else-own-clause-step
returns-else-own-clause-step g c rs h =
    let m = g.S.CodeSpace.memory c.args.space.now in
    let i = c.args.info.now in
    let at = c.args.at in
    let x = c.args.item.now in
    let xs = (between m (at + x.size) c.args.end).items in
    let zs = (between m at c.args.end).items in
    let inside = c.requires.first.inside in
    let low = c.requires.low in
    let le : at ≤ c.args.end = omega (arith, inside) in
    let z : zs ≡ x ∷ xs = first_items m c.args.end at x c.requires.first in
    let fits = part_fits m at c.args.end le in
    let n = c.in-Inside.count in
    let is = subst (IsTail (1 + length (between (g.S.CodeSpace.memory c.args.space.now)
    (c.args.at + c.args.item.now.size) c.args.end).items) (counted 0 (tail_at
    c.frame_register.result (g.S.CodeSpace.memory c.args.space.now) c.args.at))) c.in-Inside.is
    c.in_ok-tail.ensures.tail in
    error_shown c.args.loaded.now.items (record { at = at; rule = Epilogue })
    (past_rest i at rs x xs (tail_at i.frame_register m at))
    (past_other m i at rs x xs n zs z (part_stands m at c.args.end le) (omega (arith, fits, low))
    (sym (ap (λ f. counted 0 (tail_at f m at)) (sym c.frame_register.ensures)
    ∙ is.0))
    (sym c.if-own.false ∙ c.in_ok-own-in-Inside.ensures rs
    (λ r. ap (has r) c.deref.ensures.value ∙ h r)))
