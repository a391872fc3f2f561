use Rattle.std.proofs.Common.{◌≡◌, ◌<◌, ◌-◌, ◌+◌, ◌%◌, ◌^◌, ◌++◌, ◌∷◌, [], ℕ, List, take, length, sym, ap, ◌∙◌, arith, append_assoc, rules}
use Rattle.std.proofs.lemmas.List.{append-nil, take_more_set}
use Rattle.flat_memory.specs.Memory.{executable}
use Rattle.image_code.specs.Code.{code_of}
use Rattle.image_code.proofs.Fetching.{executable_more, executable_none, executable_zero}
use Rattle.image_code.proofs.code_view.CodeView.fetch_each.Goals as goal

pub returns-in_default-clause-bytes : goal.returns-in_default-clause-bytes
returns-in_default-clause-bytes c =
    let m = code_of c.args.self.now in
    let n = c.loop-n.n in
    let none = executable_none m (15 - n) c.loop-n.next (sym c.byte.ensures ∙ c.in_default.is) in
    sym (c.loop-n.invariant ∙ ap (λ (t : List ℕ). take n c.loop-n.into ++ t) none
    ∙ append-nil (take n c.loop-n.into))

pub loop-n-preserved : goal.loop-n-preserved
loop-n-preserved c =
    let m = code_of c.args.self.now in
    let n = c.loop-n.n in
    let into = c.loop-n.into in
    let b = c.in-Some.byte in
    let next = (c.loop-n.next + 1) % 2 ^ 64 in
    let more = executable_more m (15 - n) c.loop-n.next b (omega arith)
    (sym c.byte.ensures ∙ c.in-Some.is) in
    let less : 15 - n - 1 ≡ 15 - (n + 1) = omega arith in
    let room : n < length into = search rules in
    c.loop-n.invariant ∙ ap (λ (t : List ℕ). take n into ++ t)
    (more ∙ ap (λ k. b ∷ executable m k next) less)
    ∙ sym (append_assoc (take n into) (b ∷ []) (executable m (15 - (n + 1)) next))
    ∙ ap (λ (t : List ℕ). t ++ executable m (15 - (n + 1)) next) (sym (take_more_set into n b room))

pub returns-clause-bytes : goal.returns-clause-bytes
returns-clause-bytes c =
    let m = code_of c.args.self.now in
    let n = c.loop-n.n in
    let into = c.loop-n.into in
    let all : n ≡ 15 = search rules in
    let end = executable_zero m (15 - n) c.loop-n.next (omega arith) in
    sym (c.loop-n.invariant ∙ ap (λ (t : List ℕ). take n into ++ t) end ∙ append-nil (take n into)
    ∙ ap (λ k. take k into) all)
