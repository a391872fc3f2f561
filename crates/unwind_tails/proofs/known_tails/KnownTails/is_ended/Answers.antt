use Rattle.std.proofs.Common.{ℕ, ◌+◌, ◌^◌, List, true, false, sym, subst, arith}
use Rattle.std.specs.Prelude.{All}
use Rattle.std.proofs.lemmas.List.Elements.{All-nil, All-push, All-contains}
use Rattle.unwind_tails.specs.TailEnds.{IsEnded}
use Rattle.unwind_tails.proofs.LaterTails.{IsLed, led_here, led_on, led_ends, all_on, all_end}
use Rattle.unwind_tails.proofs.known_tails.KnownTails.is_ended.Goals as goal

pub loop-n-init : goal.loop-n-init
loop-n-init g c =
    let m = g.S.CodeSpace.memory c.args.space.now in
    record {
      known = c.requires;
      first = led_here m c.args.at 0;
      all = subst (λ (xs : List ℕ). All (IsLed m c.args.at 0) xs) (sym c.new-places.ensures.items)
          (All-nil (IsLed m c.args.at 0));
    }

pub returns-then-has-clause-ended : goal.returns-then-has-clause-ended
returns-then-has-clause-ended g c =
    let m = g.S.CodeSpace.memory c.args.space.now in
    let lt = c.loop-n-test.true in
    subst (IsEnded (2 ^ 62) m c.args.at) (sym c.ends.ensures)
    (led_ends m c.loop-n.here c.loop-n._n (2 ^ 61) (2 ^ 62) c.args.at c.loop-n.self.ends
    (omega (arith, lt))
    (All-contains (λ a. IsEnded (2 ^ 61) m a c.loop-n.self.ends) c.loop-n.self.places c.loop-n.here
    c.loop-n.invariant.known (c.has.ensures c.if-has.true)) c.loop-n.invariant.first)

pub returns-in-Missing-clause-ended : goal.returns-in-Missing-clause-ended
returns-in-Missing-clause-ended g c =
    let m = g.S.CodeSpace.memory c.args.space.now in
    let lt = c.loop-n-test.true in
    led_ends m c.loop-n.here c.loop-n._n 0 (2 ^ 62) c.args.at false (omega (arith, lt))
    c.in-Missing.ensures c.loop-n.invariant.first

pub returns-in-Missing-clause-known : goal.returns-in-Missing-clause-known
returns-in-Missing-clause-known g c =
    let m = g.S.CodeSpace.memory c.args.space.now in
    let lt = c.loop-n-test.true in
    all_end m c.loop-n.here c.loop-n._n 0 c.loop-n.places.items false (omega (arith, lt))
    c.in-Missing.ensures c.loop-n.invariant.all

pub returns-in-End-clause-ended : goal.returns-in-End-clause-ended
returns-in-End-clause-ended g c =
    let m = g.S.CodeSpace.memory c.args.space.now in
    let lt = c.loop-n-test.true in
    led_ends m c.loop-n.here c.loop-n._n 1 (2 ^ 62) c.args.at true (omega (arith, lt))
    c.in-End.ensures c.loop-n.invariant.first

pub returns-in-End-clause-known : goal.returns-in-End-clause-known
returns-in-End-clause-known g c =
    let m = g.S.CodeSpace.memory c.args.space.now in
    let lt = c.loop-n-test.true in
    let P : ℕ → Type 0 = λ a. IsEnded (2 ^ 61) m a true in
    subst (λ (xs : List ℕ). All P xs) (sym c.in_ok-push-in-End.ensures.items)
    (All-push P c.loop-n.places.items c.loop-n.here
    (all_end m c.loop-n.here c.loop-n._n 1 c.loop-n.places.items true (omega (arith, lt))
    c.in-End.ensures c.loop-n.invariant.all)
    (λ k le. c.in-End.ensures k (omega (arith, le))))

pub loop-n-preserved : goal.loop-n-preserved
loop-n-preserved g c =
    let m = g.S.CodeSpace.memory c.args.space.now in
    let on = c.in-Restore.ensures in
    let next = c.in-Restore.next in
    let n = c.loop-n._n in
    record {
      known = c.loop-n.invariant.known;
      first = led_on m c.loop-n.here n next c.args.at on c.loop-n.invariant.first;
      all = subst (λ (xs : List ℕ). All (IsLed m next (n + 1)) xs)
          (sym c.in_ok-push-in-Restore.ensures.items)
          (all_on m c.loop-n.here n next c.loop-n.places.items on c.loop-n.invariant.all);
    }
