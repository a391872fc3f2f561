-- A list of tokens has one first fault at most, and none where it is a program.
use Rattle.std.proofs.Common.{◌≡◌, ◌≤◌, ◌<◌, ℕ, zero, suc, List, [], ◌∷◌, ◌++◌, refl, sym, ap, ◌∙◌}
use Rattle.std.proofs.Common.{subst, arith, append_assoc, append-nil}
use Rattle.c_syntax.specs.Words.{Token, Parameter, place, ExternalDeclaration, Globals, Function, IsProgram, Statements}
use Rattle.c_syntax.specs.Limits.{every_limit, FunctionWithinFirst, EachWithinFirst, WithinFirst}
use Rattle.c_syntax.specs.Viable.{Viable, ContinuesWithin, IsSyntaxFault, OneFirstFault, NoFaultInProgram}

-- ---- fewer limits

-- the limits of m are among those of n
abbrev AreAmong : ℕ → ℕ → Type 0
AreAmong m n = (k : ℕ) → k ≤ every_limit → k ≤ m → k ≤ n

-- What is within some limits is within fewer of them.
pub function_fewer : (n m : ℕ) (ps : List Parameter) (body : Statements) → AreAmong m n
    → FunctionWithinFirst n ps body → FunctionWithinFirst m ps body
function_fewer n m ps body f h = record {
  statements = λ k. h.statements (f 1 (omega arith) k);
  expressions = λ k. h.expressions (f 1 (omega arith) k);
  locals = λ k. h.locals (f 2 (omega arith) k);
  arrays = λ k. h.arrays (f 3 (omega arith) k);
  parameters = λ k. h.parameters (f 4 (omega arith) k);
}

each_fewer : (n m : ℕ) (xs : List ExternalDeclaration) → AreAmong m n → EachWithinFirst n xs
    → EachWithinFirst m xs
each_fewer n m [] f h = tt
each_fewer n m (Globals base gs ∷ xs) f h = each_fewer n m xs f h
each_fewer n m (Function returns name ps body ∷ xs) f h =
    (function_fewer n m ps body f h.0, each_fewer n m xs f h.1)

fewer : (n m : ℕ) (text : List ℕ) (xs : List ExternalDeclaration) → AreAmong m n
    → WithinFirst n text xs → WithinFirst m text xs
fewer n m text xs f h = record {
  each = each_fewer n m xs f h.each;
  functions = λ k. h.functions (f 5 (omega arith) k);
  bytes = λ k. h.bytes (f 6 (omega arith) k);
  numbered = λ k. h.numbered (f 7 (omega arith) k);
}

continues_fewer : (n m : ℕ) (text : List ℕ) (front fault : List Token) → AreAmong m n
    → ContinuesWithin n text front fault → ContinuesWithin m text front fault
continues_fewer n m text front [] f h = (h.0, h.1, fewer n m text h.0 f h.2)
continues_fewer n m text front (t ∷ fault) f h = record {
  beyond = h.beyond;
  more = h.more;
  program = h.program;
  derives = h.derives;
  within = fewer n m (text ++ h.beyond) h.program f h.within;
}

-- ---- one first fault

-- of two cuts of a list the first part of one continues to that of the other
record Longer (front fault front' : List Token) : Type 0 where
  token : Token
  rest : List Token
  more : List Token
  is : fault ≡ token ∷ rest
  longer : front' ≡ front ++ token ∷ more

data Cuts (front fault front' fault' : List Token) : Type 0 where
  same : front ≡ front' → fault ≡ fault' → Cuts front fault front' fault'
  before : Longer front fault front' → Cuts front fault front' fault'
  following : Longer front' fault' front → Cuts front fault front' fault'

further : (t : Token) (front fault front' fault' : List Token) → Cuts front fault front' fault'
    → Cuts (t ∷ front) fault (t ∷ front') fault'
further t front fault front' fault' (same p q) = same (ap (λ z. t ∷ z) p) q
further t front fault front' fault' (before l) =
    before (record {
      token = l.token;
      rest = l.rest;
      more = l.more;
      is = l.is;
      longer = ap (λ z. t ∷ z) l.longer;
    })
further t front fault front' fault' (following l) =
    following (record {
      token = l.token;
      rest = l.rest;
      more = l.more;
      is = l.is;
      longer = ap (λ z. t ∷ z) l.longer;
    })

cuts : (front fault front' fault' : List Token) → front ++ fault ≡ front' ++ fault'
    → Cuts front fault front' fault'
cuts [] fault [] fault' e = same refl e
cuts [] fault (t ∷ front') fault' e =
    before (record { token = t; rest = front' ++ fault'; more = front'; is = e; longer = refl })
cuts (t ∷ front) fault [] fault' e =
    following (record { token = t; rest = front ++ fault; more = front; is = sym e; longer = refl })
cuts (t ∷ front) fault (t' ∷ front') fault' e =
    let p : t ≡ t' = cc in
    let q : front ++ fault ≡ front' ++ fault' = cc in
    subst (λ z. Cuts (t ∷ front) fault (z ∷ front') fault') p
    (further t front fault front' fault' (cuts front fault front' fault' q))

goes_to : (n : ℕ) (text : List ℕ) (front fault front' : List Token) → Longer front fault front'
    → Viable every_limit text front' → ContinuesWithin n text front fault
goes_to n text front fault front' l v =
    let e : front' ++ v.more ≡ (front ++ l.token ∷ []) ++ (l.more ++ v.more) =
    ap (λ z. z ++ v.more) l.longer ∙ append_assoc front (l.token ∷ l.more) v.more
    ∙ sym (append_assoc front (l.token ∷ []) (l.more ++ v.more)) in
    subst (λ z. ContinuesWithin n text front z) (sym l.is)
    (record {
      beyond = v.beyond;
      more = l.more ++ v.more;
      program = v.program;
      derives = subst (λ z. IsProgram (text ++ v.beyond) v.program z) e v.derives;
      within = fewer every_limit n (text ++ v.beyond) v.program (λ k a b. a) v.within;
    })

-- the limits before one are fewer
order : (n m : ℕ) (text : List ℕ) (front fault : List Token) → n < m
    → (ContinuesWithin n text front fault → ⊥)
    → ((k : ℕ) → m ≡ suc k → ContinuesWithin k text front fault) → ⊥
order n zero text front fault l s f = absurd (omega arith)
order n (suc m) text front fault l s f =
    s (continues_fewer m n text front fault (λ k a b. omega arith) (f m refl))

neither : (n m : ℕ) → (n < m → ⊥) → (m < n → ⊥) → n ≡ m
neither zero zero g h = refl
neither zero (suc m) g h = absurd (g (omega arith))
neither (suc n) zero g h = absurd (h (omega arith))
neither (suc n) (suc m) g h = ap suc (neither n m (λ l. g (omega arith)) (λ l. h (omega arith)))

at_same : (text : List ℕ) (ts : List Token) (n m at to : ℕ) (x : IsSyntaxFault n at text ts)
    (y : IsSyntaxFault m to text ts) → Cuts x.front x.fault y.front y.fault → (n ≡ m) × (at ≡ to)
at_same text ts n m at to x y (same p q) =
    let g : (n < m → ⊥) =
    λ l. order n m text x.front x.fault l x.stops
    (λ k e. subst (λ z. ContinuesWithin k text z x.fault) (sym p)
    (subst (λ z. ContinuesWithin k text y.front z) (sym q) (y.fewer k e))) in
    let h : (m < n → ⊥) =
    λ l. order m n text y.front y.fault l y.stops
    (λ k e. subst (λ z. ContinuesWithin k text z y.fault) p
    (subst (λ z. ContinuesWithin k text x.front z) q (x.fewer k e))) in
    (neither n m g h, x.located ∙ ap (place text) q ∙ sym y.located)
at_same text ts n m at to x y (before l) =
    absurd (x.stops (goes_to n text x.front x.fault y.front l y.viable))
at_same text ts n m at to x y (following l) =
    absurd (y.stops (goes_to m text y.front y.fault x.front l x.viable))

pub one_first_fault : OneFirstFault
one_first_fault text ts n m at to x y =
    at_same text ts n m at to x y (cuts x.front x.fault y.front y.fault (sym x.split ∙ y.split))

-- ---- no fault in a program

whole_goes : (n : ℕ) (text : List ℕ) (front fault : List Token) (xs : List ExternalDeclaration)
    → IsProgram text xs (front ++ fault) → WithinFirst n text xs
    → ContinuesWithin n text front fault
whole_goes n text front [] xs h w = (xs, subst (λ z. IsProgram text xs z) (append-nil front) h, w)
whole_goes n text front (t ∷ fault) xs h w =
    let e : text ≡ text ++ [] = sym (append-nil text) in
    record {
      beyond = [];
      more = fault;
      program = xs;
      derives = subst (λ z. IsProgram z xs ((front ++ t ∷ []) ++ fault)) e
          (subst (λ z. IsProgram text xs z) (sym (append_assoc front (t ∷ []) fault)) h);
      within = subst (λ z. WithinFirst n z xs) e w;
    }

pub no_fault_in_program : NoFaultInProgram
no_fault_in_program text ts n at xs f h w =
    f.stops (whole_goes n text f.front f.fault xs (subst (λ z. IsProgram text xs z) f.split h)
    (fewer every_limit n text xs (λ k a b. a) w))
