use Rattle.std.specs.Prelude.{All}
use Rattle.unwind_tails.specs.TailEnds.{AreEnded}
use Rattle.unwind_tails.proofs.LaterTails.{IsLed}
use Rattle.unwind_tails.proofs.known_tails.KnownTails.is_ended.Given as goal

abbrev pub invariant-loop-n : goal.invariant-loop-n
invariant-loop-n g l =
    let m = g.S.CodeSpace.memory l.space in
    record {
      known : AreEnded m l.self;
      first : IsLed m l.here l._n l.at;
      all : All (IsLed m l.here l._n) l.places.items;
    }
