use Rattle.std.proofs.Common.{◌≡◌, ◌≤◌, ◌++◌, List, ℕ, codes, length, sym, ap, subst, ◌∙◌}
use Rattle.generated_program.specs.GeneratedText.{function, call, for_each, generated}
use Rattle.generated_program.proofs.Texts.{short}
use Rattle.generated_program.proofs.generating.generate.Goals as goal

pub returns-clause-short : goal.returns-clause-short
returns-clause-short c =
    let opening = c.in_ok-extend_from_slice.ensures.items
    ∙ ap (λ (t : List ℕ). t ++ codes "int g; ") c.new-text.ensures.items in
    let functions = c.in_ok-put_functions.ensures
    ∙ ap (λ (t : List ℕ). t ++ for_each (function c.args.n) 256) opening in
    let middle = c.in_ok-extend_from_slice-2.ensures.items
    ∙ ap (λ (t : List ℕ). t ++ codes "int main(void){ int s = 0; __try{ ") functions in
    let calls = c.in_ok-put_calls.ensures ∙ ap (λ (t : List ℕ). t ++ for_each call 256) middle in
    let text : c.extend_from_slice-3.new.self.items ≡ generated c.args.n =
    c.in_ok-extend_from_slice-3.ensures.items ∙ ap (λ (t : List ℕ). t
    ++ codes "} __except(1){ return 1; } put(s); put(g); return 0; }") calls in
    subst (λ (t : List ℕ). length t ≤ 65536) (sym text) (short c.args.n)
