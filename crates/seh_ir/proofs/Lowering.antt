-- Regions, funclets and functions, one after another.
use Rattle.std.proofs.Common.{◌≡◌, ◌⊎◌, inl, inr, ℕ, zero, suc, ◌+◌, ◌<◌, ◌≤◌, List, [], ◌∷◌, ◌++◌, length, map, take, get_or, replicate, refl, sym, ap, ◌∙◌, arith, append_assoc}
use Rattle.std.specs.Prelude.{◌-◌, if◌then◌else◌, ◌&&◌, Option, Some, None}
use Rattle.std.proofs.lemmas.Bool.{cases_lt}
use Rattle.std.proofs.lemmas.List.{append-nil, map-append, length-replicate, replicate-append-replicate}
use Rattle.c_checked.specs.Program.{Function as Function', surplus}
use Rattle.c_checked.specs.Sound.{is_pair_of_ints, is_size}
use Rattle.c_operations.specs.declared.operation.Size.{Size}
use Rattle.c_operations.specs.declared.operation.Size.TheVariants.{Int, Long}
use Rattle.seh_ir.specs.Words.{Stmt, Statement, Statements, Empty, Then, TryFinally, finally_names, finally_funclet, in_funclet, statement, statements, function, Region, LinearFunction, LinearFunclet, Names, Owner, statement_size, statements_size, statement_regions, statements_regions, statement_funclets, statements_funclets, Separator, asking, first_separators, first_count, lowered_function, lowered_funclets, all_funclets}
use Rattle.linear_code.specs.declared.program.LabelRange.{LabelRange}
use Rattle.seh_ir.specs.ColdParts.{statement_cold, statements_cold}
use Rattle.c_checked.specs.declared.function.Function.{Function}

more_sizes : (items : List Stmt) (i : ℕ) (x : Stmt) → i < length items
    → statements_size (statements (map statement (take (suc i) items)))
    ≡ statements_size (statements (map statement (take i items)))
    + statement_size (statement (get_or items i x))
more_sizes [] i x lt = absurd (omega arith)
more_sizes (y ∷ ys) zero x lt = omega arith
more_sizes (y ∷ ys) (suc i) x lt = let r = more_sizes ys i x (omega arith) in omega arith

-- ---- what the statements have at their places: their regions, and their cold parts

module _ {X : Type 0} (one : Statement → ℕ → List X) (all : Statements → ℕ → List X)
    (none : (at : ℕ) → all Empty at ≡ [])
    (some : (s : Statement) (ss : Statements) (at : ℕ)
    → all (Then s ss) at ≡ one s at ++ all ss (at + statement_size s)) where
  more_parts : (items : List Stmt) (i : ℕ) (x : Stmt) (at : ℕ) → i < length items
      → all (statements (map statement (take (suc i) items))) at
      ≡ all (statements (map statement (take i items))) at
      ++ one (statement (get_or items i x))
      (at + statements_size (statements (map statement (take i items))))
  more_parts [] i x at lt = absurd (omega arith)
  more_parts (y ∷ ys) zero x at lt =
      let e : at ≡ at + 0 = omega arith in
      let s = statement y in
      some s Empty at ∙ ap (λ t. one s at ++ t) (none (at + statement_size s))
      ∙ append-nil (one s at) ∙ ap (λ k. one s k) e
      ∙ ap (λ t. t ++ one s (at + 0)) (sym (none at))
  more_parts (y ∷ ys) (suc i) x at lt =
      let s = statement y in
      let rest = statements (map statement (take i ys)) in
      let last = one (statement (get_or ys i x)) in
      let to = at + statement_size s in
      let l : to + statements_size rest ≡ at + (statement_size s + statements_size rest) = omega
      arith in
      some s (statements (map statement (take (suc i) ys))) at
      ∙ ap (λ t. one s at ++ t) (more_parts ys i x to (omega arith))
      ∙ sym (append_assoc (one s at) (all rest to) (last (to + statements_size rest)))
      ∙ ap (λ k. (one s at ++ all rest to) ++ last k) l
      ∙ ap (λ t. t ++ last (at + (statement_size s + statements_size rest))) (sym (some s rest at))

  parts_next : (items : List Stmt) (i : ℕ) (x : Stmt) (at place next : ℕ)
      (old mid new : List X) → i < length items → x ≡ get_or items i x
      → place ≡ at + statements_size (statements (map statement (take i items)))
      → mid ≡ old ++ all (statements (map statement (take i items))) at
      → new ≡ mid ++ one (statement x) place
      → next ≡ place + statement_size (statement x) → (next ≡ at + statements_size
      (statements (map statement (take (i + 1) items))))
      × (new ≡ old ++ all (statements (map statement (take (i + 1) items))) at)
  parts_next items i x at place next old mid new lt is p h k n =
      let more : suc i ≡ i + 1 = omega arith in
      let g = get_or items i x in
      let count = statements_size (statements (map statement (take i items))) in
      let made = all (statements (map statement (take i items))) at in
      let f : statement_size (statement x) ≡ statement_size (statement g) = ap
      (λ y. statement_size (statement y)) is in
      let m = more_sizes items i x lt in
      let sized : next ≡ at + statements_size (statements (map statement (take (suc i) items))) =
      omega arith in
      let placed : new ≡ (old ++ made) ++ one (statement g) (at + count) = k
      ∙ ap (λ y. mid ++ one (statement y) place) is
      ∙ ap (λ y. mid ++ one (statement g) y) p
      ∙ ap (λ y. y ++ one (statement g) (at + count)) h in (
        sized ∙ ap (λ j. at + statements_size (statements (map statement (take j items)))) more,
        placed ∙ append_assoc old made (one (statement g) (at + count))
            ∙ ap (λ y. old ++ y) (sym (more_parts items i x at lt))
            ∙ ap (λ j. old ++ all (statements (map statement (take j items))) at) more,
      )

pub regions_next : (items : List Stmt) (i : ℕ) (x : Stmt) (at place next : ℕ)
    (old mid new : List Region) → i < length items → x ≡ get_or items i x
    → place ≡ at + statements_size (statements (map statement (take i items)))
    → mid ≡ old ++ statements_regions (statements (map statement (take i items))) at
    → new ≡ mid ++ statement_regions (statement x) place
    → next ≡ place + statement_size (statement x) → (next ≡ at + statements_size
    (statements (map statement (take (i + 1) items))))
    × (new ≡ old ++ statements_regions (statements (map statement (take (i + 1) items))) at)
regions_next = parts_next statement_regions statements_regions (λ at. refl) (λ s ss at. refl)

pub cold_next : (items : List Stmt) (i : ℕ) (x : Stmt) (at place next : ℕ)
    (old mid new : List LabelRange) → i < length items → x ≡ get_or items i x
    → place ≡ at + statements_size (statements (map statement (take i items)))
    → mid ≡ old ++ statements_cold (statements (map statement (take i items))) at
    → new ≡ mid ++ statement_cold (statement x) place
    → next ≡ place + statement_size (statement x) → (next ≡ at + statements_size
    (statements (map statement (take (i + 1) items))))
    × (new ≡ old ++ statements_cold (statements (map statement (take (i + 1) items))) at)
cold_next = parts_next statement_cold statements_cold (λ at. refl) (λ s ss at. refl)

-- ---- funclets

more_funclets : (owner : Owner) (names : Names) (items : List Stmt) (i : ℕ) (x : Stmt)
    → i < length items → statements_funclets owner names
    (statements (map statement (take (suc i) items)))
    ≡ statements_funclets owner names (statements (map statement (take i items)))
    ++ statement_funclets owner names (statement (get_or items i x))
more_funclets owner names [] i x lt = absurd (omega arith)
more_funclets owner names (y ∷ ys) zero x lt = append-nil
    (statement_funclets owner names (statement y))
more_funclets owner names (y ∷ ys) (suc i) x lt =
    let front = statement_funclets owner names (statement y) in
    let made = statements_funclets owner names (statements (map statement (take i ys))) in
    ap (λ t. front ++ t) (more_funclets owner names ys i x (omega arith))
    ∙ sym (append_assoc front made (statement_funclets owner names (statement (get_or ys i x))))

pub funclets_next : (owner : Owner) (names : Names) (items : List Stmt) (i : ℕ) (x : Stmt)
    (old mid new : List LinearFunclet) → i < length items → x ≡ get_or items i x
    → mid ≡ old ++ statements_funclets owner names (statements (map statement (take i items)))
    → new ≡ mid ++ statement_funclets owner names (statement x)
    → new ≡ old ++ statements_funclets owner names (statements (map statement (take (i + 1) items)))
funclets_next owner names items i x old mid new lt is h k =
    let one : suc i ≡ i + 1 = omega arith in
    let g = get_or items i x in
    let made = statements_funclets owner names (statements (map statement (take i items))) in
    k ∙ ap (λ y. mid ++ statement_funclets owner names (statement y)) is
    ∙ ap (λ y. y ++ statement_funclets owner names (statement g)) h
    ∙ append_assoc old made (statement_funclets owner names (statement g))
    ∙ ap (λ y. old ++ y) (sym (more_funclets owner names items i x lt))
    ∙ ap (λ j. old ++ statements_funclets owner names (statements (map statement (take j items))))
    one

-- of a `__try` with a `__finally` block: of its body, the block, and those in it
pub finally_appended : (owner inner : Owner) (names names' : Names) (body last : Statements)
    (k : ℕ) (x : Statement) (funclet : LinearFunclet) (old one two new : List LinearFunclet)
    → x ≡ TryFinally body k last → inner ≡ in_funclet (k - 1) owner → names' ≡ finally_names names
    → one ≡ old ++ statements_funclets owner names body → funclet ≡ finally_funclet owner names last
    → two ≡ one ++ funclet ∷ [] → new ≡ two ++ statements_funclets inner names' last
    → new ≡ old ++ statement_funclets owner names x
finally_appended owner inner names names' body last k x funclet old one two new is i n a f b c =
    let first = statements_funclets owner names body in
    let rest = statements_funclets (in_funclet (k - 1) owner) (finally_names names) last in
    let block = finally_funclet owner names last in
    c ∙ ap (λ (o : Owner). two ++ statements_funclets o names' last) i
    ∙ ap (λ (m : Names). two ++ statements_funclets (in_funclet (k - 1) owner) m last) n
    ∙ ap (λ ys. ys ++ rest) b ∙ append_assoc one (funclet ∷ []) rest
    ∙ ap (λ (g : LinearFunclet). one ++ g ∷ rest) f ∙ ap (λ ys. ys ++ block ∷ rest) a
    ∙ append_assoc old first (block ∷ rest)
    ∙ ap (λ y. old ++ statement_funclets owner names y) (sym is)

-- ---- functions

-- the separators that a function begins with
pub first_are : (f : Function') (n : ℕ) → n ≡ first_count f
    → replicate n Separator ≡ first_separators f
first_are f n e =
    let k : n ≡ 1 + (surplus f + asking f) = omega arith in
    ap (λ k. replicate k Separator) k
    ∙ sym (replicate-append-replicate 1 (surplus f + asking f) Separator)

pub length_first : (f : Function') → length (first_separators f) ≡ first_count f
length_first f =
    let e = length-replicate (surplus f + asking f) Separator in
    omega arith

abbrev asking_of : List Size → Option Size → ℕ
asking_of sizes returns = if (is_pair_of_ints sizes && is_size Int returns) then 1 else 0

asking_is : (f : Function') → (asking f ≡ 0) ⊎ ((asking f ≡ 1) × (length f.parameters ≡ 2))
asking_is f = by f.parameters f.returns
  where
    by : (sizes : List Size) (returns : Option Size)
        → (asking_of sizes returns ≡ 0) ⊎ ((asking_of sizes returns ≡ 1) × (length sizes ≡ 2))
    by (Int ∷ Int ∷ []) (Some Int) = inr (refl, refl)
    by (Int ∷ Int ∷ []) (Some Long) = inl refl
    by (Int ∷ Int ∷ []) None = inl refl
    by (Int ∷ Int ∷ z ∷ zs) returns = inl refl
    by (Int ∷ Long ∷ zs) returns = inl refl
    by (Int ∷ []) returns = inl refl
    by (Long ∷ zs) returns = inl refl
    by [] returns = inl refl

-- one that can be asked takes two, which are no more than any other most
pub asking_within : (f : Function') (most : ℕ) → (most ≡ 2 → ⊥) → length f.parameters ≤ most
    → length f.parameters + asking f ≤ most
asking_within f most other few = by (asking_is f)
  where
    by : (asking f ≡ 0) ⊎ ((asking f ≡ 1) × (length f.parameters ≡ 2))
        → length f.parameters + asking f ≤ most
    by (inl none) = omega arith
    by (inr one) = strict (cases_lt (length f.parameters) most)
      where
        strict : (length f.parameters < most) ⊎ (most ≤ length f.parameters)
            → length f.parameters + asking f ≤ most
        strict (inl lt) = omega arith
        strict (inr le) = absurd (other (omega arith))

more_functions : (items : List Function) (i : ℕ) (x : Function) → i < length items
    → map lowered_function (map function (take (suc i) items))
    ≡ map lowered_function (map function (take i items))
    ++ lowered_function (function (get_or items i x)) ∷ []
more_functions [] i x lt = absurd (omega arith)
more_functions (y ∷ ys) zero x lt = refl
more_functions (y ∷ ys) (suc i) x lt = ap (λ t. lowered_function (function y) ∷ t)
    (more_functions ys i x (omega arith))

more_of_all : (number : ℕ) (items : List Function) (i : ℕ) (x : Function) → i < length items
    → all_funclets number (map function (take (suc i) items))
    ≡ all_funclets number (map function (take i items))
    ++ lowered_funclets (number + i) (function (get_or items i x))
more_of_all number [] i x lt = absurd (omega arith)
more_of_all number (y ∷ ys) zero x lt =
    let e : number ≡ number + 0 = omega arith in
    append-nil (lowered_funclets number (function y)) ∙ ap (λ k. lowered_funclets k (function y)) e
more_of_all number (y ∷ ys) (suc i) x lt =
    let front = lowered_funclets number (function y) in
    let made = all_funclets (number + 1) (map function (take i ys)) in
    let e : number + 1 + i ≡ number + suc i = omega arith in
    ap (λ t. front ++ t) (more_of_all (number + 1) ys i x (omega arith))
    ∙ sym (append_assoc front made (lowered_funclets (number + 1 + i) (function (get_or ys i x))))
    ∙ ap (λ k. (front ++ made) ++ lowered_funclets k (function (get_or ys i x))) e

pub functions_next : (items : List Function) (i : ℕ) (x : Function) (f : LinearFunction)
    (mid new : List LinearFunction) → i < length items → x ≡ get_or items i x
    → mid ≡ map lowered_function (map function (take i items)) → f ≡ lowered_function (function x)
    → new ≡ mid ++ f ∷ [] → new ≡ map lowered_function (map function (take (i + 1) items))
functions_next items i x f mid new lt is h e k =
    let one : suc i ≡ i + 1 = omega arith in
    k ∙ ap (λ y. y ++ f ∷ []) h ∙ ap (λ y. map lowered_function (map function (take i items)) ++ y
    ∷ []) (e ∙ ap (λ y. lowered_function (function y)) is)
    ∙ sym (more_functions items i x lt)
    ∙ ap (λ j. map lowered_function (map function (take j items))) one

pub all_next : (items : List Function) (i number : ℕ) (x : Function) (mid new : List LinearFunclet)
    → i < length items → x ≡ get_or items i x → number ≡ i
    → mid ≡ all_funclets 0 (map function (take i items))
    → new ≡ mid ++ lowered_funclets number (function x)
    → new ≡ all_funclets 0 (map function (take (i + 1) items))
all_next items i number x mid new lt is n h k =
    let one : suc i ≡ i + 1 = omega arith in
    let z : number ≡ 0 + i = omega arith in
    k ∙ ap (λ y. mid ++ lowered_funclets number (function y)) is
    ∙ ap (λ y. mid ++ lowered_funclets y (function (get_or items i x))) z
    ∙ ap (λ y. y ++ lowered_funclets (0 + i) (function (get_or items i x))) h
    ∙ sym (more_of_all 0 items i x lt)
    ∙ ap (λ j. all_funclets 0 (map function (take j items))) one

-- ---- whole programs

pub mapped : {X Y : Type 0} (f : X → Y) (xs ys : List X) (x : X) → ys ≡ xs ++ x ∷ []
    → map f ys ≡ map f xs ++ f x ∷ []
mapped f xs ys x e = ap (λ zs. map f zs) e ∙ map-append f xs (x ∷ [])
