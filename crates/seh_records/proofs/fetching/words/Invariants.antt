use Rattle.std.proofs.Common.{◌≡◌, ◌-◌, ◌+◌, ◌*◌, ◌%◌, ◌^◌, ◌++◌, take, length}
use Rattle.seh_records.specs.Vocabulary.{words_at}
use Rattle.seh_records.proofs.fetching.words.Given as goal

abbrev pub invariant-loop-i : goal.invariant-loop-i
invariant-loop-i g l =
    let m = g.S.CodeSpace.memory l.space in
    let n = length l.fn.into in
    record {
      same : length l.into ≡ n;
      here : l.here ≡ l.offset + 8 * l.i;
      words : words_at m.byte n ((l.at + l.offset) % 2 ^ 64)
          ≡ take l.i l.into ++ words_at m.byte (n - l.i) ((l.at + l.here) % 2 ^ 64);
    }
