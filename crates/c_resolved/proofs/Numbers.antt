-- Locals and filters are numbered in their order, and are as many as the text has.
use Rattle.std.proofs.Common.{◌≡◌, ◌≤◌, ℕ, ◌+◌, refl, ap, sym, subst, ◌∙◌, arith}
use Rattle.std.proofs.lemmas.Bool.{eq-eqb, and_parts, and_from, both_ways}
use Rattle.std.proofs.lemmas.Slice.Eq.{bytes_eq-Decides}
use Rattle.std.proofs.lemmas.List.{append-nil, append_assoc, length-append}
use Rattle.std.specs.Prelude.{suc, Bool, true, false, ◌&&◌, cond, nat_eq, if◌then◌else◌, List, [], ◌∷◌, ◌++◌, length, slice_get, Some, codes, zero}
use Rattle.c_resolved.specs.Words.{filter_funclet, funclets_in, funclets, count_up, Base, Expression, accepts, numbered, funclets_of_all, locals_of_for_initialiser, Statement, Statements, Local, ForInitialiser, Declaring, Evaluating, Scope, built_ins, spelled, meaning_in, size_of, Environment, Numbering, ResolvedStatements, Near, Beyond, past_finally, inside, is_accepting, always, only, declare, declare_all, ResolvedFilter, resolve_filter, with_number, resolve_for_initialiser, resolve_statement, resolve_statements, variable_of, elements_of, CType}
use Rattle.c_checked.specs.Statement as checked
use Rattle.c_syntax.specs.declared.expression.Literal.TheVariants as literals
use Rattle.c_syntax.specs.Expression as trees
use Rattle.c_syntax.specs.Limits as limits
use Rattle.c_syntax.specs.Statement as statements

-- ---- fronts of lists

-- a list begins with another
abbrev pub IsFront : {A : Type 0} → List A → List A → Type 0
IsFront {A} xs zs = (more : List A) × (zs ≡ xs ++ more)

pub front_itself : {A : Type 0} (xs : List A) → IsFront xs xs
front_itself xs = ([], sym (append-nil xs))

pub front_through : {A : Type 0} (xs ys zs : List A) → IsFront xs ys → IsFront ys zs
    → IsFront xs zs
front_through xs ys zs p q = (p.0 ++ q.0, q.1 ∙ ap (λ w. w ++ q.0) p.1 ∙ append_assoc xs p.0 q.0)

get_after : {A : Type 0} (xs : List A) (x : A) (more : List A)
    → slice_get ((xs ++ x ∷ []) ++ more) (length xs) ≡ Some x
get_after [] x more = refl
get_after (y ∷ ys) x more = get_after ys x more

-- the element after a front
pub front_get : {A : Type 0} (xs : List A) (x : A) (zs : List A) → IsFront (xs ++ x ∷ []) zs
    → slice_get zs (length xs) ≡ Some x
front_get xs x zs h = ap (λ w. slice_get w (length xs)) h.1 ∙ get_after xs x h.0

-- what a front has at a place
get_front : {A : Type 0} (xs more : List A) (i : ℕ) (x : A) → slice_get xs i ≡ Some x
    → slice_get (xs ++ more) i ≡ Some x
get_front [] more i x h = absurd (cc)
get_front (y ∷ xs) more zero x h = h
get_front (y ∷ xs) more (suc i) x h = get_front xs more i x h

pub front_has : {A : Type 0} (xs zs : List A) (i : ℕ) (x : A) → IsFront xs zs
    → slice_get xs i ≡ Some x → slice_get zs i ≡ Some x
front_has xs zs i x front h = ap (λ w. slice_get w i) front.1 ∙ get_front xs front.0 i x h

-- the one numbering goes on from the other, as many sizes as variables
abbrev pub Grows : Numbering → Numbering → Type 0
Grows n p = IsFront n.sizes p.sizes × IsFront n.variables p.variables
    × (length p.sizes + length n.variables ≡ length p.variables + length n.sizes)

grows_itself : (n : Numbering) → Grows n n
grows_itself n = (front_itself n.sizes, front_itself n.variables, omega arith)

grows_through : (n m p : Numbering) → Grows n m → Grows m p → Grows n p
grows_through n m p g h = (
  front_through n.sizes m.sizes p.sizes g.0 h.0,
  front_through n.variables m.variables p.variables g.1 h.1,
  omega (arith, g.2, h.2),
)

-- ---- counting

-- between two states so many locals are declared, and these funclets are given, at most k
pub record Counted (n after : Numbering) (ns : List ℕ) (l k : ℕ) : Type 0 where
  pub grows : Grows n after
  pub sizes : length after.sizes ≡ length n.sizes + l
  pub up : count_up n.number ns ≡ true
  pub number : after.number ≡ n.number + length ns
  pub within : length ns ≤ k

pub counted_as : (n p : Numbering) (ns ms : List ℕ) (l r k j : ℕ) → Counted n p ns l k → ns ≡ ms
    → l ≡ r → k ≤ j → Counted n p ms r j
counted_as n p ns ms l r k j c e f g =
    let same : length ns ≡ length ms = ap length e in
    record {
      grows = c.grows;
      sizes = omega (arith, c.sizes);
      up = subst (λ x. count_up n.number x ≡ true) e c.up;
      number = omega (arith, c.number);
      within = omega (arith, c.within);
    }

pub none_counted : (n : Numbering) (k : ℕ) → Counted n n [] 0 k
none_counted n k = record {
  grows = grows_itself n;
  sizes = omega arith;
  up = refl;
  number = omega arith;
  within = omega arith;
}

one_counted : (n : Numbering) → Counted n (with_number n (n.number + 1)) (n.number ∷ []) 0 1
one_counted n = record {
  grows = grows_itself n;
  sizes = omega arith;
  up = ap (λ b. b && true) (eq-eqb n.number n.number refl);
  number = refl;
  within = omega arith;
}

pub count_up_append : (a : ℕ) (xs ys : List ℕ) → count_up a xs ≡ true
    → count_up (a + length xs) ys ≡ true → count_up a (xs ++ ys) ≡ true
count_up_append a [] ys h k =
    let e : a + 0 ≡ a = omega arith in
    subst (λ x. count_up x ys ≡ true) e k
count_up_append a (x ∷ xs) ys h k =
    let e : a + suc (length xs) ≡ (a + 1) + length xs = omega arith in
    let first = and_parts (nat_eq x a) (count_up (a + 1) xs) h in
    and_from (nat_eq x a) (count_up (a + 1) (xs ++ ys)) first.0
    (count_up_append (a + 1) xs ys first.1 (subst (λ y. count_up y ys ≡ true) e k))

pub then_counted : (n m p : Numbering) (xs ys : List ℕ) (l r k j : ℕ) → Counted n m xs l k
    → Counted m p ys r j → Counted n p (xs ++ ys) (l + r) (k + j)
then_counted n m p xs ys l r k j c d =
    let e = length-append xs ys in
    record {
      grows = grows_through n m p c.grows d.grows;
      sizes = omega (arith, c.sizes, d.sizes);
      up = count_up_append n.number xs ys c.up (subst (λ x. count_up x ys ≡ true) c.number d.up);
      number = omega (arith, c.number, d.number, e);
      within = omega (arith, c.within, d.within, e);
    }

-- ---- declarations

declare_counted : (a : Environment) (base : Base) (l : Local) (block : Scope) (n : Numbering)
    → Counted n (declare a base l block n).counts [] 1 0
declare_counted a base l block n =
    let type : CType = record { base = base; pointers = l.pointers } in
    let sizes = length-append n.sizes (size_of type ∷ []) in
    let variables = length-append n.variables (variable_of type (elements_of l.length) ∷ []) in
    record {
      grows = (
        (size_of type ∷ [], refl),
        (variable_of type (elements_of l.length) ∷ [], refl),
        omega (arith, sizes, variables),
      );
      sizes = length-append n.sizes _;
      up = refl;
      number = omega arith;
      within = omega arith;
    }

-- what a resolved declaration counts
abbrev MadeCounted : Numbering → ResolvedStatements → ℕ → ℕ → Type 0
MadeCounted n m l k = Counted n m.counts (funclets (checked.statements m.done)) l k

pub declare_all_counted : (a : Environment) (base : Base) (ls : List Local) (block : Scope)
    (n : Numbering) → MadeCounted n (declare_all a base ls block n) (length ls) 0
declare_all_counted a base [] block n = none_counted n 0
declare_all_counted a base (l ∷ ls) block n =
    let m = declare a base l block n in
    let rest = declare_all a base ls m.block m.counts in
    let ns = funclets (checked.statements rest.done) in
    counted_as n rest.counts ns ns (1 + length ls) (suc (length ls)) 0 0
    (then_counted n m.counts rest.counts [] ns 1 (length ls) 0 0 (declare_counted a base l block n)
    (declare_all_counted a base ls m.block m.counts)) refl (omega arith) (omega arith)

no_numbers : (a : Environment) (base : Base) (ls : List Local) (block : Scope) (n : Numbering)
    → funclets (checked.statements (declare_all a base ls block n).done) ≡ []
no_numbers a base [] block n = refl
no_numbers a base (l ∷ ls) block n = let m = declare a base l block n in
    no_numbers a base ls m.block m.counts

-- ---- filters that accept always

spelled_always : (block outer : Scope) (name : List ℕ) → name ≡ codes "EXCEPTION_EXECUTE_HANDLER"
    → is_accepting (meaning_in (built_ins ++ block ++ outer) name) ≡ true
spelled_always block outer name e = ap (λ w. is_accepting
    (meaning_in (built_ins ++ block ++ outer) w)) e

accepting_always : (a : Environment) (block : Scope) (e : Expression) → accepts a.text e ≡ true
    → always a block e ≡ true
accepting_always a block (trees.Constant at (literals.Integer n of)) h = h
accepting_always a block (trees.Variable n) h =
    spelled_always block a.outer (spelled a.text n)
    ((bytes_eq-Decides (spelled a.text n) (codes "EXCEPTION_EXECUTE_HANDLER")).0 h)
accepting_always a block (trees.Parentheses at e) h = accepting_always a block e h
accepting_always a block other h = absurd (cc)

pub if_both : {A : Type 0} (P : A → Type 0) (b : Bool) (x y : A) → (b ≡ true → P x)
    → (b ≡ false → P y) → P (if b then x else y)
if_both P true x y p q = p refl
if_both P false x y p q = q refl

filter_counted : (a : Environment) (block : Scope) (f : Expression) (n : Numbering) (at : ℕ)
    → Counted n (with_number n (resolve_filter a block f n.number).number)
    (filter_funclet (resolve_filter a block f n.number).filter) 0
    (length (cond (accepts a.text f) [] (at ∷ [])))
filter_counted a block f n at = if_both {A = ResolvedFilter}
    (λ r. Counted n (with_number n r.number) (filter_funclet r.filter) 0
    (length (cond (accepts a.text f) [] (at ∷ [])))) (always a block f) _ _
    (λ e. none_counted n _) λ e.
    by_accepts (accepts a.text f) refl e
  where
    by_accepts : (x : Bool) → accepts a.text f ≡ x → always a block f ≡ false
        → Counted n (with_number n (n.number + 1)) (n.number ∷ []) 0 (length (cond x [] (at ∷ [])))
    by_accepts true h e = absurd (both_ways (always a block f) e (accepting_always a block f h))
    by_accepts false h e = one_counted n

-- ---- statements

numbers_append : (xs ys : List checked.Statement)
    → funclets (checked.statements xs) ++ funclets (checked.statements ys)
    ≡ funclets (checked.statements (xs ++ ys))
numbers_append [] ys = refl
numbers_append (x ∷ xs) ys = append_assoc (funclets_in x) (funclets (checked.statements xs))
    (funclets (checked.statements ys)) ∙ ap (λ w. funclets_in x ++ w) (numbers_append xs ys)

-- the first of what is done has the funclets of all
only_numbers : (s : Statement) (a : Environment) (block : Scope) (n : Numbering)
    → funclets_in (only (resolve_statement s a block n).done)
    ≡ funclets (checked.statements (resolve_statement s a block n).done)
only_numbers (statements.Declare base []) a block n = refl
only_numbers (statements.Declare base (l ∷ ls)) a block n = let m = declare a base l block n in
    sym (no_numbers a base ls m.block m.counts)
only_numbers other a block n = sym (append-nil _)

-- one statement, whose funclets are those of what is done inside it
enclosed_counted : (n p : Numbering) (ms ns : List ℕ) (l k : ℕ) → Counted n p ns l k → ms ≡ ns
    → Counted n p (ms ++ []) l k
enclosed_counted n p ms ns l k c e = counted_as n p ns (ms ++ []) l l k k c
    (sym e ∙ sym (append-nil ms)) refl (omega arith)

for_initialiser_counted : (a : Environment) (f : ForInitialiser) (n : Numbering)
    → Counted n (resolve_for_initialiser a f n).resolved.counts [] (locals_of_for_initialiser f) 0
for_initialiser_counted a (Declaring base ls) n =
    let m = declare_all a base ls [] n in
    counted_as n m.counts (funclets (checked.statements m.done)) [] (length ls) (length ls) 0 0
    (declare_all_counted a base ls [] n) (no_numbers a base ls [] n) refl (omega arith)
for_initialiser_counted a (Evaluating e) n = none_counted n 0

mutual
  pub statement_counted : (s : Statement) (a : Environment) (block : Scope) (n : Numbering)
      → MadeCounted n (resolve_statement s a block n) (limits.locals s) (length (numbered a.text s))
  statement_counted (statements.Declare base ls) a block n = declare_all_counted a base ls block n
  statement_counted (statements.Block ss) a block n =
      let m = resolve_statements ss (inside a block) [] n in
      enclosed_counted n m.counts (funclets (checked.statements m.done))
      (funclets (checked.statements m.done)) _ _ (statements_counted ss (inside a block) [] n)
      refl
  statement_counted (statements.Evaluate e) a block n = none_counted n 0
  statement_counted (statements.If at c s) a block n =
      let here = inside a block in
      let m = resolve_statement s here [] n in
      enclosed_counted n m.counts (funclets_in (only m.done)) (funclets (checked.statements m.done))
      _ _ (statement_counted s here [] n) (only_numbers s here [] n)
  statement_counted (statements.IfElse at c s t) a block n =
      let here = inside a block in
      let m = resolve_statement s here [] n in
      let k = resolve_statement t here [] m.counts in
      let xs = funclets (checked.statements m.done) in
      let ys = funclets (checked.statements k.done) in
      let e : funclets_in (only m.done) ++ funclets_in (only k.done)
      ≡ xs ++ ys = ap (λ w. w ++ funclets_in (only k.done)) (only_numbers s here [] n)
      ∙ ap (λ w. xs ++ w) (only_numbers t here [] m.counts) in
      let c = then_counted n m.counts k.counts xs ys _ _ _ _ (statement_counted s here [] n)
      (statement_counted t here [] m.counts) in
      let bound = length-append (numbered a.text s) (numbered a.text t) in
      enclosed_counted n k.counts (funclets_in (only m.done) ++ funclets_in (only k.done))
      (xs ++ ys) _ _ (counted_as n k.counts (xs ++ ys) (xs ++ ys) _ _ _ _ c refl refl
      (omega arith)) e
  statement_counted (statements.While at c s) a block n =
      let here = record (inside a block) { loop = Near } in
      let m = resolve_statement s here [] n in
      enclosed_counted n m.counts (funclets_in (only m.done)) (funclets (checked.statements m.done))
      _ _ (statement_counted s here [] n) (only_numbers s here [] n)
  statement_counted (statements.DoWhile s at c) a block n =
      let here = record (inside a block) { loop = Near } in
      let m = resolve_statement s here [] n in
      enclosed_counted n m.counts (funclets_in (only m.done)) (funclets (checked.statements m.done))
      _ _ (statement_counted s here [] n) (only_numbers s here [] n)
  statement_counted (statements.For at f c next s) a block n =
      let b = resolve_for_initialiser (inside a block) f n in
      let here = record (inside (inside a block) b.resolved.block) { loop = Near } in
      let m = resolve_statement s here [] b.resolved.counts in
      let xs = funclets (checked.statements m.done) in
      let c = then_counted n b.resolved.counts m.counts [] xs _ _ 0 _
      (for_initialiser_counted (inside a block) f n)
      (statement_counted s here [] b.resolved.counts) in
      enclosed_counted n m.counts (funclets_in (only m.done)) xs _ _
      (counted_as n m.counts xs xs _ _ _ _ c refl refl (omega arith))
      (only_numbers s here [] b.resolved.counts)
  statement_counted (statements.Return at e) a block n = none_counted n 0
  statement_counted (statements.Break at) a block n = none_counted n 0
  statement_counted (statements.Continue at) a block n = none_counted n 0
  statement_counted (statements.Leave at) a block n = none_counted n 0
  statement_counted (statements.TryExcept body at f handler) a block n =
      let here = inside a block in
      let m = resolve_statements body (record here { body = Near }) [] n in
      let q = resolve_filter a block f m.counts.number in
      let after = with_number m.counts q.number in
      let k = resolve_statements handler (record here { code = true }) [] after in
      let xs = funclets (checked.statements m.done) in
      let ys = filter_funclet q.filter in
      let zs = funclets (checked.statements k.done) in
      let c = then_counted n m.counts after xs ys _ _ _ _
      (statements_counted body (record here { body = Near }) [] n)
      (filter_counted a block f m.counts at) in
      let d = then_counted n after k.counts (xs ++ ys) zs _ _ _ _ c
      (statements_counted handler (record here { code = true }) [] after) in
      let v = cond (accepts a.text f) [] (at ∷ []) in
      let first = length-append (funclets_of_all a.text body) v in
      let second = length-append (funclets_of_all a.text body ++ v)
      (funclets_of_all a.text handler) in
      enclosed_counted n k.counts (xs ++ ys ++ zs) (xs ++ ys ++ zs) _ _
      (counted_as n k.counts (xs ++ ys ++ zs) (xs ++ ys ++ zs) _ _ _ _ d refl (omega arith)
      (omega arith)) refl
  statement_counted (statements.TryFinally body at last) a block n =
      let here = inside a block in
      let m = resolve_statements body (record here { body = Near }) [] n in
      let after = with_number m.counts (m.counts.number + 1) in
      let there = record here {
        loop = past_finally a.loop;
        body = past_finally a.body;
        function = Beyond;
        abnormal = true;
      } in
      let k = resolve_statements last there [] after in
      let xs = funclets (checked.statements m.done) in
      let zs = funclets (checked.statements k.done) in
      let c = then_counted n m.counts after xs (m.counts.number ∷ []) _ _ _ _
      (statements_counted body (record here { body = Near }) [] n) (one_counted m.counts) in
      let d = then_counted n after k.counts (xs ++ m.counts.number ∷ []) zs _ _ _ _ c
      (statements_counted last there [] after) in
      let first = length-append (funclets_of_all a.text body) (at ∷ []) in
      let second = length-append (funclets_of_all a.text body ++ at ∷ [])
      (funclets_of_all a.text last) in
      let e : xs ++ m.counts.number ∷ [] ++ zs
      ≡ xs ++ m.counts.number ∷ zs = append_assoc xs (m.counts.number ∷ []) zs in
      enclosed_counted n k.counts (xs ++ m.counts.number ∷ zs) (xs ++ m.counts.number ∷ zs) _ _
      (counted_as n k.counts (xs ++ m.counts.number ∷ [] ++ zs) (xs ++ m.counts.number ∷ zs) _ _ _
      _ d e (omega arith) (omega arith)) refl

  pub statements_counted : (ss : Statements) (a : Environment) (block : Scope) (n : Numbering)
      → MadeCounted n (resolve_statements ss a block n) (limits.locals_of_all ss)
      (length (funclets_of_all a.text ss))
  statements_counted statements.Empty a block n = none_counted n 0
  statements_counted (statements.Then s ss) a block n =
      let m = resolve_statement s a block n in
      let rest = resolve_statements ss a m.block m.counts in
      let xs = funclets (checked.statements m.done) in
      let ys = funclets (checked.statements rest.done) in
      let bound = length-append (numbered a.text s) (funclets_of_all a.text ss) in
      counted_as n rest.counts (xs ++ ys) (funclets (checked.statements (m.done ++ rest.done))) _ _
      _ _
      (then_counted n m.counts rest.counts xs ys _ _ _ _ (statement_counted s a block n)
      (statements_counted ss a m.block m.counts)) (numbers_append m.done rest.done) refl
      (omega arith)
