use Rattle.std.proofs.Common.{◌≡◌, ◌-◌, ◌+◌, ◌%◌, ◌^◌, ◌++◌, ℕ, List, take, length, sym, ap, ◌∙◌, arith, append_assoc, rules}
use Rattle.std.proofs.lemmas.Grind.{common_steps}
use Rattle.std.proofs.lemmas.List.{append-nil, length-take-le}
use Rattle.std.proofs.lemmas.Slice.{take-put_mid}
use Rattle.x64_memory.specs.Words.{Protection, executable}
use Rattle.x64_memory.proofs.Steps.{executable-none, executable-zero, not_false, not_true}
use Rattle.x64_memory.proofs.RestsOfPages.{executable_stretch}
use Rattle.x64_memory.proofs.paged.fetch.Goals as goal

pub loop-filled-preserved : goal.loop-filled-preserved
loop-filled-preserved g c =
    let m = g.P.ReadPages.memory c.args.space.now in
    let i = c.loop-filled.filled in
    let k = c.min-count.result in
    let into = c.loop-filled.into in
    let bytes = c.rest_of_page.result.1.now in
    let left = 15 - (i + k) in
    let copied : c.copy_from_slice.new.self ≡ take k
    bytes = let a = c.copy_from_slice.ensures.after in grind (arith, common_steps, a) in
    let whole : k + left ≡ 15 - i = omega arith in
    let rest = executable_stretch m c.loop-filled.here c.rest_of_page.result.0 bytes k left
    c.rest_of_page.ensures (omega arith) (not_false _ c.if-not-protection.false) (omega arith) in
    let len : length c.copy_from_slice.new.self ≡ k = ap length copied
    ∙ length-take-le k bytes (omega arith) in
    let room : length into ≡ 15 = search rules in
    let kept : take (i + k) _ ≡ take i into ++ c.copy_from_slice.new.self = take-put_mid i
    (i + k - i) into c.copy_from_slice.new.self (i + k) (omega arith) (omega arith) in
    record {
      most = omega arith;
      rest = c.loop-filled.invariant.rest ∙ ap (λ (t : List ℕ). take i into ++ t)
          (ap (λ q. executable m q c.loop-filled.here) (sym whole) ∙ rest)
          ∙ sym (append_assoc (take i into) (take k bytes)
          (executable m left ((c.loop-filled.here + k) % 2 ^ 64)))
          ∙ ap (λ (t : List ℕ). t ++ executable m left ((c.loop-filled.here + k) % 2 ^ 64))
          (sym (kept ∙ ap (λ (t : List ℕ). take i into ++ t) copied));
    }

pub returns-after-loop-filled-clause-bytes : goal.returns-after-loop-filled-clause-bytes
returns-after-loop-filled-clause-bytes g c =
    let m = g.P.ReadPages.memory c.args.space.now in
    let end = executable-zero m (15 - c.loop-filled.filled) c.loop-filled.here (omega arith) in
    sym (c.loop-filled.invariant.rest ∙ ap (λ (t : List ℕ). take c.loop-filled.filled
    c.loop-filled.into ++ t) end ∙ append-nil (take c.loop-filled.filled c.loop-filled.into))

pub returns-then-not-protection-clause-bytes : goal.returns-then-not-protection-clause-bytes
returns-then-not-protection-clause-bytes g c =
    let m = g.P.ReadPages.memory c.args.space.now in
    let no = ap (λ (o : Protection). o.execute) c.rest_of_page.ensures.mode_is
    ∙ not_true _ c.if-not-protection.true in
    let end = executable-none m (15 - c.loop-filled.filled) c.loop-filled.here no in
    sym (c.loop-filled.invariant.rest ∙ ap (λ (t : List ℕ). take c.loop-filled.filled
    c.loop-filled.into ++ t) end ∙ append-nil (take c.loop-filled.filled c.loop-filled.into))
