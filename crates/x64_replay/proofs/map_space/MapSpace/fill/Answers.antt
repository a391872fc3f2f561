use Rattle.std.proofs.Common.{◌≡◌, ◌<◌, ◌+◌, ◌++◌, ℕ, List, length, take, drop, sym, ap, ◌∙◌, arith}
use Rattle.std.proofs.lemmas.Bool.Decides.{nat_tests}
use Rattle.std.proofs.lemmas.List.{take-append-drop}
use Rattle.x64_memory.specs.Regions.{filled}
use Rattle.x64_replay.specs.MapSpaces.{memory_of}
use Rattle.x64_memory.proofs.Mapping.{filled_more, filled_none}
use Rattle.x64_replay.proofs.map_space.MapSpace.fill.Goals as goal

pub fill_page-requires-clause-there : goal.fill_page-requires-clause-there
fill_page-requires-clause-there c =
    let some : 0 < length c.loop-rest.rest.now = grind
    (arith, nat_tests, c.loop-rest-test.ensures) in
    c.loop-rest.invariant.holds c.loop-rest.here
    ∙ c.requires.there c.loop-rest.here c.loop-rest.invariant.start (omega arith)

pub loop-rest-preserved : goal.loop-rest-preserved
loop-rest-preserved c =
    let first = c.split_at.result.0.now in
    let others = c.split_at.result.1.now in
    let rest = c.loop-rest.rest.now in
    let m = memory_of c.loop-rest.self in
    let front : first ≡ take c.min-count.result rest = c.split_at.ensures.front in
    let back : others ≡ drop c.min-count.result rest = c.split_at.ensures.back in
    let size : length first ≡ c.min-count.result = c.split_at.ensures.front_len in
    let whole : first ++ others ≡ rest = ap (λ (t : List ℕ). t ++ others) front
    ∙ ap (λ (t : List ℕ). take c.min-count.result rest ++ t) back
    ∙ take-append-drop c.min-count.result rest in
    record {
      memory = ap (λ m'. filled m' (c.loop-rest.here + c.min-count.result) others)
          c.fill_page.ensures.memory ∙ ap (λ n. filled (filled m c.loop-rest.here first)
          (c.loop-rest.here + n) others) (sym size) ∙ filled_more m c.loop-rest.here first others
          ∙ ap (filled m c.loop-rest.here) whole ∙ c.loop-rest.invariant.memory;
      holds = λ a. c.fill_page.ensures.holds a ∙ c.loop-rest.invariant.holds a;
      start = omega arith;
      end = omega arith;
    }

pub returns-clause-memory : goal.returns-clause-memory
returns-clause-memory c =
    let none : length c.loop-rest.rest.now ≡ 0 = grind
    (arith, nat_tests, c.loop-rest-test.ensures) in
    sym (filled_none (memory_of c.loop-rest.self) c.loop-rest.here c.loop-rest.rest.now none)
    ∙ c.loop-rest.invariant.memory
