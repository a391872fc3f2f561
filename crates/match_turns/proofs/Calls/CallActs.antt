-- What linear code does at a call, and how many turns its arguments take.
use Rattle.std.proofs.Common.{◌≡◌, ℕ, zero, suc, ◌+◌, ◌*◌, Bool, Some, None, List, [], ◌∷◌, length, refl, ap, ◌∙◌, arith}
use Rattle.std.specs.Prelude.{slice_get, drop, if◌then◌else◌}
use Rattle.std.proofs.lemmas.Bool.{eq-eqb}
use Rattle.linear_code.specs.declared.instruction.Instruction.TheVariants as instructions
use Rattle.match_turns.specs.Words.{LinearProgram, LinearFunction, depth_weight, Waits, Configuration, Next, with_some, deeper, last_temporaries, begin_function, waiting, act, Layout, passing_code}

-- two turns for each argument that is passed on the stack
pub passed_in : (y : Layout) (first i n : ℕ) → length (passing_code y first i n) ≡ 2 * n
passed_in y first i zero = refl
passed_in y first i (suc n) = let r = passed_in y first (i + 1) n in omega arith

pub got_past : (xs : List ℕ) (n i : ℕ) → slice_get (drop n xs) i ≡ slice_get xs (n + i)
got_past xs zero i = let z : i ≡ 0 + i = omega arith in ap (slice_get xs) z
got_past [] (suc n) i = refl
got_past (x ∷ xs) (suc n) i = got_past xs n i ∙ (let z : suc (n + i) ≡ suc n + i = omega arith
    in ap (slice_get (x ∷ xs)) z)

-- what linear code does
pub call_acts : (program : LinearProgram) (c : Configuration) (f first count : ℕ)
    (fn : LinearFunction) → slice_get program.functions f ≡ Some fn
    → length c.frame.temporaries ≡ first + count
    → (next : Next) → act program (instructions.Call f first count) next c
    ≡ deeper (depth_weight fn) c.frame.held c.store c.events (next
    (begin_function f fn (drop first c.frame.temporaries) c.frame.held
    (Waits (waiting c first).frame ∷ c.below) c.store c.events))
unfolding with_some
call_acts program c f first count fn callee held next =
    let arguments = drop first c.frame.temporaries in
    let e : last_temporaries c.frame.temporaries first count ≡ Some arguments =
    ap (λ (x : Bool). if x then Some arguments else None) (eq-eqb (length c.frame.temporaries)
    (first + count) held) in
    ap (λ o. with_some c.events o (λ arguments.
    with_some c.events (slice_get program.functions f) (λ function.
    deeper (depth_weight function) c.frame.held c.store c.events
    (next (begin_function f function arguments c.frame.held (Waits (waiting c first).frame ∷
    c.below) c.store c.events))))) e
    ∙ ap (λ o. with_some c.events o (λ function.
    deeper (depth_weight function) c.frame.held c.store c.events
    (next (begin_function f function arguments c.frame.held (Waits (waiting c first).frame ∷
    c.below) c.store c.events)))) callee
