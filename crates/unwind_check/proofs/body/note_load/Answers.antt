use Rattle.std.proofs.Common.{ℕ, Option, sym, ap, subst, ◌∙◌}
use Rattle.frame_rules.specs.Body.{has, with_restored}
use Rattle.unwind_check.specs.Steps.{HaveSame}
use Rattle.unwind_check.proofs.SameLoads.{same_none, same_more, same_again}
use Rattle.unwind_check.proofs.body.note_load.Goals as goal

pub returns-in-None : goal.returns-in-None
returns-in-None c rs h = subst
    (λ (o : Option ℕ). HaveSame c.clear.new.self.items (with_restored rs o)) (sym c.in-None.is)
    (same_none c.clear.new.self.items c.clear.ensures.items)

pub returns-then-has : goal.returns-then-has
returns-then-has c rs h =
    let r = c.in-Some.register in
    subst (λ (o : Option ℕ). HaveSame c.args.loaded.now.items (with_restored rs o))
    (sym c.in-Some.is) (same_again c.args.loaded.now.items rs r h
    (ap (has r) (sym c.deref.ensures.value) ∙ sym c.if-has.ensures))

pub returns-in_ok-insert-in-Some : goal.returns-in_ok-insert-in-Some
returns-in_ok-insert-in-Some c rs h = subst
    (λ (o : Option ℕ). HaveSame c.insert.new.self.items (with_restored rs o)) (sym c.in-Some.is)
    (same_more c.args.loaded.now.items rs c.insert.new.self.items c.in-Some.register h
    c.in_ok-insert-in-Some.ensures.items)
