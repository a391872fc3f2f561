-- Texts of numbers, one after another, and how long they are.
use Rattle.std.proofs.Common.{◌≡◌, ℕ, zero, suc, ◌+◌, ◌*◌, ◌%◌, ◌<◌, ◌≤◌, List, ◌++◌, codes, length, length-append, refl, sym, ap, ◌∙◌, arith, append_assoc, append-nil}
use Rattle.std.specs.Fmt.{decimal}
use Rattle.std.proofs.lemmas.Fmt.{length-decimal-le}
use Rattle.generated_program.specs.declared.body.Body.{Body}
use Rattle.generated_program.specs.declared.body.Body.TheVariants.{Sum, Division, Return, Collision}
use Rattle.generated_program.specs.GeneratedText.{before_constant, after_constant, function_of, body_numbered, function, call, generated}
unfoldable use Rattle.generated_program.specs.GeneratedText.{for_each}

-- none
pub none : (text : ℕ → List ℕ) (before : List ℕ) → before ≡ before ++ for_each text 0
unfolding for_each
none text before = sym (append-nil before)

-- one text more, at the end of others
pub one_more : (text : ℕ → List ℕ) (k : ℕ) (before now : List ℕ)
    → now ≡ (before ++ for_each text k) ++ text k → now ≡ before ++ for_each text (k + 1)
unfolding for_each
one_more text k before now e =
    let more : k + 1 ≡ suc k = omega arith in
    e ∙ append_assoc before (for_each text k) (text k)
    ∙ sym (ap (λ n. before ++ for_each text n) more)

-- ---- how long they are

-- so many texts, each of which has at most so many bytes
short_all : (text : ℕ → List ℕ) (most b k : ℕ) → ((j : ℕ) → j < most → length (text j) ≤ b)
    → k ≤ most → length (for_each text k) ≤ b * k
unfolding for_each
short_all text most b zero h le = omega arith
short_all text most b (suc k) h le =
    let rest = short_all text most b k h (omega arith) in
    let one = h k (omega arith) in
    omega (arith, rest, one, length-append (for_each text k) (text k))

short_before : (b : Body) → length (before_constant b) ≤ 171
short_before Sum = omega arith
short_before Division = omega arith
short_before Return = omega arith
short_before Collision = omega arith

short_after : (b : Body) → length (after_constant b) ≤ 60
short_after Sum = omega arith
short_after Division = omega arith
short_after Return = omega arith
short_after Collision = omega arith

five_lengths : (a b c d e : List ℕ) → length (a ++ b ++ c ++ d ++ e)
    ≡ length a + length b + length c + length d + length e
five_lengths a b c d e =
    omega (
      arith,
      length-append (a ++ b ++ c ++ d) e,
      length-append (a ++ b ++ c) d,
      length-append (a ++ b) c,
      length-append a b,
    )

function_within : (a b c d e : List ℕ) → length a ≡ 5 → length b ≤ 3 → length c ≤ 171
    → length d ≤ 2 → length e ≤ 60 → length (a ++ b ++ c ++ d ++ e) ≤ 241
function_within a b c d e p q r s t = omega (arith, five_lengths a b c d e, p, q, r, s, t)

short_function : (b : Body) (k c : ℕ) → k < 256 → c < 97 → length (function_of b k c) ≤ 241
short_function b k c lk lc =
    function_within (codes "int f") (decimal k) (before_constant b) (decimal c) (after_constant b)
    refl (length-decimal-le 3 k (omega arith) (omega arith) (omega arith)) (short_before b)
    (length-decimal-le 2 c (omega arith) (omega arith) (omega arith)) (short_after b)

call_within : (a b c : List ℕ) → length a ≡ 5 → length b ≤ 3 → length c ≡ 5
    → length (a ++ b ++ c) ≤ 13
call_within a b c p q r = omega (arith, length-append (a ++ b) c, length-append a b, p, q, r)

short_call : (k : ℕ) → k < 256 → length (call k) ≤ 13
short_call k lt =
    call_within (codes "s = f") (decimal k) (codes "(s); ") refl
    (length-decimal-le 3 k (omega arith) (omega arith) (omega arith)) refl

program_within : (a b c d e : List ℕ) → length a ≡ 7 → length b ≤ 241 * 256 → length c ≡ 34
    → length d ≤ 13 * 256 → length e ≡ 54 → length (a ++ b ++ c ++ d ++ e) ≤ 65536
program_within a b c d e p q r s t = omega (arith, five_lengths a b c d e, p, q, r, s, t)

pub short : (n : ℕ) → length (generated n) ≤ 65536
short n =
    program_within (codes "int g; ") (for_each (function n) 256)
    (codes "int main(void){ int s = 0; __try{ ") (for_each call 256)
    (codes "} __except(1){ return 1; } put(s); put(g); return 0; }") refl
    (short_all (function n) 256 241 256
    (λ k lt. short_function (body_numbered ((n + k) % 4)) k ((n + k) % 97) lt (omega arith))
    (omega arith)) refl (short_all call 256 13 256 short_call (omega arith)) refl
