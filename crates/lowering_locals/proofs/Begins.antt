-- The marks of the activations where a function begins, and where none does.
use Rattle.std.proofs.Common.{◌≡◌, ℕ, ◌+◌, ◌-◌, ◌≤◌, List, [], ◌∷◌, ◌++◌, length, sym, ap, subst, arith, length-append}
use Rattle.std.proofs.lemmas.Bool.{le-ltb, lt-ltb}
use Rattle.std.specs.Prelude.{true, false, nat_lt, take, replicate, Option, Some, None}
use Rattle.lowering_locals.specs.Words.{Event, no_exception, LinearFunction, FunctionBody, Item, Store, Configuration, Marks, first_marks, begun_marks, AreActivationsAlike, AreLocalsAlike}
use Rattle.lowering_locals.proofs.Lists.{Alive, one_more, begun_alike}

-- a function begins in this activation
abbrev pub begun_in : ℕ → ℕ → ℕ → List Item → Store → List Event → Configuration
begun_in n f held below store es = record {
  frame = record {
    body = FunctionBody f;
    next = 0;
    activation = n;
    exception = no_exception;
    held = held;
    temporaries = [];
    landed = None;
  };
  below = below;
  store = store;
  events = es;
}

-- where no more live than were left, none has begun
pub none_begun : (o : Option LinearFunction) (count left live : ℕ) (marks : Marks) → live ≤ left
    → begun_marks (nat_lt left live) o count left live marks ≡ take live marks
none_begun o count left live marks le =
    ap (λ b. begun_marks b o count left live marks) (le-ltb left live le)

-- a function that begins has its arguments
pub begun_after : (function : LinearFunction) (left : ℕ) (marks : Marks) (xs ys : List (List ℕ))
    (arguments zeros values : List ℕ) (count : ℕ) → length arguments ≡ count
    → length zeros ≡ function.body.locals - function.parameters
    → length values ≡ function.body.locals - function.parameters
    → Alive marks xs ys → length xs ≡ left
    → AreActivationsAlike (begun_marks (nat_lt left (length (xs ++ (arguments ++ zeros) ∷ [])))
    (Some function) count left (length (xs ++ (arguments ++ zeros) ∷ [])) marks)
    (xs ++ (arguments ++ zeros) ∷ []) (ys ++ (arguments ++ values) ∷ [])
begun_after function left marks xs ys arguments zeros values count passed z v alive all =
    let rest = function.body.locals - function.parameters in
    let first = arguments ++ zeros in
    let other = arguments ++ values in
    let live = length (xs ++ first ∷ []) in
    let long : live ≡ length xs + 1 = length-append xs (first ∷ []) in
    let more : nat_lt left live ≡ true = lt-ltb left live (omega arith) in
    subst (λ b. AreActivationsAlike (begun_marks b (Some function) count left live marks)
    (xs ++ first ∷ []) (ys ++ other ∷ [])) (sym more)
    (one_more (take left marks) xs ys (first_marks count function) first other
    (subst (λ n. AreActivationsAlike (take n marks) xs ys) all alive)
    (subst (λ j. AreLocalsAlike (replicate j true ++ replicate rest false) first other) passed
    (begun_alike arguments zeros values rest z v)))
