-- What `?:` and the comma make of good operands is good.
use Rattle.std.proofs.Common.{◌≡◌, refl, ap, sym, ◌∙◌}
use Rattle.std.proofs.lemmas.Bool.{eqb-true}
use Rattle.std.specs.Prelude.{Bool, true, false, not, ◌&&◌, ◌||◌, nat_eq, nat_lt, if◌then◌else◌, Option, Some, None}
use Rattle.c_checked.specs.Expression as nodes
use Rattle.c_resolved.specs.Words.{same_sizes, CType, is_pointer, is_void, is_integer, is_scalar, is_void_pointer, same_base, same_type, size_of, common, TypedNode, typed, void_pointer, as_is, as_type, branch_type, as_branch, chosen, conditional_of, comma_of}
use Rattle.c_resolved.proofs.Settings.{expression_size, Setting}
use Rattle.c_resolved.proofs.Conversions.{and_left, and_right}
use Rattle.c_resolved.proofs.TypeFacts.{void_size, void_not_scalar, pointer_scalar, integer_scalar, common_scalar}
use Rattle.c_resolved.proofs.Operands.{IsGood, GoodIf, HasSize, and_true, if_good, typed_good, as_is_has, as_type_has, as_is_sound, has_number, alike_sizes}

-- ---- conditional and comma

-- both branches have the type's size, or neither has a value
record AreBranches (t : CType) (a b : TypedNode) : Type 0 where
  scalar : is_void t ≡ false → (is_scalar a.type ≡ true) × (is_scalar b.type ≡ true)
  void : is_void t ≡ true → (is_void a.type ≡ true) × (is_void b.type ≡ true)

abbrev BranchesIf : Option CType → TypedNode → TypedNode → Type 0
BranchesIf None a b = Unit {0}
BranchesIf (Some t) a b = AreBranches t a b

scalar_branches : (t : CType) (a b : TypedNode) → is_scalar t ≡ true → is_scalar a.type ≡ true
    → is_scalar b.type ≡ true → AreBranches t a b
scalar_branches t a b s p q = record {
  scalar = λ v. (p, q);
  void = λ v. absurd (clash (is_void t) s v);
}
  where
    clash : (v : Bool) → not v ≡ true → v ≡ true → ⊥
    clash true s v = absurd (cc)
    clash false s v = absurd (cc)

if_branches : (a b : TypedNode) (c : Bool) (x y : Option CType) → (c ≡ true → BranchesIf x a b)
    → (c ≡ false → BranchesIf y a b) → BranchesIf (if c then x else y) a b
if_branches a b true x y h k = h refl
if_branches a b false x y h k = k refl

same_type_pointer : (a b : CType) → same_type a b ≡ true → is_pointer a ≡ true → is_pointer b ≡ true
same_type_pointer a b h p = ap (nat_lt 0) (sym
    (eqb-true a.pointers b.pointers (and_left (nat_eq a.pointers b.pointers)
    (same_base a.base b.base) h))) ∙ p

-- the other is of the pointer's type, or a literal 0
other_scalar : (S : Setting) (a b : TypedNode) → IsGood S b → is_pointer a.type ≡ true
    → (same_type a.type b.type || b.zero) ≡ true → is_scalar b.type ≡ true
other_scalar S a b h p e = by_same (same_type a.type b.type) refl b.zero refl e
  where
    by_same : (x : Bool) → same_type a.type b.type ≡ x → (z : Bool) → b.zero ≡ z → (x || z) ≡ true
        → is_scalar b.type ≡ true
    by_same true s z y e = pointer_scalar b.type (same_type_pointer a.type b.type s p)
    by_same false s true y e = h.zero y
    by_same false s false y e = absurd (cc)

branches : (S : Setting) (a b : TypedNode) → IsGood S a → IsGood S b
    → BranchesIf (branch_type a b) a b
branches S a b g h =
    let u = a.type in
    let v = b.type in
    if_branches a b (is_integer u && is_integer v) _ _
    (λ e.
    let p = and_left (is_integer u) (is_integer v) e in
    let q = and_right (is_integer u) (is_integer v) e in
    scalar_branches (common u v) a b (common_scalar u v p q) (integer_scalar u p)
    (integer_scalar v q))
    (λ n. if_branches a b (is_void u && is_void v) _ _
    (λ e. record {
      scalar = λ f. absurd (cc);
      void = λ t. (and_left (is_void u) (is_void v) e, and_right (is_void u) (is_void v) e);
    })
    (λ n. if_branches a b (is_pointer u && (same_type u v || b.zero)) _ _
    (λ e.
    let p = and_left (is_pointer u) (same_type u v || b.zero) e in
    let s = pointer_scalar u p in
    scalar_branches u a b s s (other_scalar S a b h p
    (and_right (is_pointer u) (same_type u v || b.zero) e)))
    (λ n. if_branches a b (is_pointer v && a.zero) _ _
    (λ e.
    let s = pointer_scalar v (and_left (is_pointer v) a.zero e) in
    scalar_branches v a b s (g.zero (and_right (is_pointer v) a.zero e)) s)
    (λ n. if_branches a b (is_pointer u && is_pointer v && (is_void_pointer u || is_void_pointer v))
    _ _
    (λ e.
    let p = and_left (is_pointer u && is_pointer v) (is_void_pointer u || is_void_pointer v) e in
    scalar_branches void_pointer a b refl (pointer_scalar u
    (and_left (is_pointer u) (is_pointer v) p))
    (pointer_scalar v (and_right (is_pointer u) (is_pointer v) p)))
    (λ n. tt)))))

void_branch : (S : Setting) (a : TypedNode) → IsGood S a → is_void a.type ≡ true
    → expression_size S (as_is a) ≡ None
void_branch S a g h = g.sized ∙ void_size a.type h

chosen_good : (S : Setting) (c a b : TypedNode) (t : CType) → IsGood S c → IsGood S a
    → IsGood S b → is_scalar c.type ≡ true → AreBranches t a b
    → IsGood S (typed t (nodes.Conditional (as_is c) (as_branch t a) (as_branch t b)))
chosen_good S c a b t f g h s r = by_void (is_void t) refl
  where
    condition : HasSize S (as_is c) (size_of c.type)
    condition = as_is_has S c f s

    by_void : (x : Bool) → is_void t ≡ x → IsGood S
        (typed t (nodes.Conditional (as_is c) (if x then as_is a else as_type t a)
        (if x then as_is b else as_type t b)))
    by_void true v =
        let p = void_branch S a g (r.void v).0 in
        let q = void_branch S b h (r.void v).1 in
        record {
          sound =
              and_true (and_true (and_true (and_true condition.sound (as_is_sound S a g))
              (as_is_sound S b h)) (has_number S (as_is c) (size_of c.type) condition))
              (ap (λ o. same_sizes o (expression_size S (as_is b))) p ∙ ap (same_sizes None) q);
          sized = p ∙ sym (void_size t v);
          zero = λ z. absurd (cc);
        }
    by_void false v =
        let p = as_type_has S a t g (r.scalar v).0 in
        let q = as_type_has S b t h (r.scalar v).1 in
        typed_good S t (nodes.Conditional (as_is c) (as_type t a) (as_type t b))
        (void_not_scalar t v)
        (and_true (and_true (and_true (and_true condition.sound p.sound) q.sound)
        (has_number S (as_is c) (size_of c.type) condition))
        (alike_sizes (expression_size S (as_type t a)) (expression_size S (as_type t b)) (size_of t)
        p.size q.size))
        p.size

chosen_if : (S : Setting) (c a b : TypedNode) (o : Option CType) → IsGood S c → IsGood S a
    → IsGood S b → is_scalar c.type ≡ true → BranchesIf o a b → GoodIf S (chosen c a b o)
chosen_if S c a b None f g h s r = tt
chosen_if S c a b (Some t) f g h s r = chosen_good S c a b t f g h s r

pub conditional_good : (S : Setting) (c a b : TypedNode) → IsGood S c → IsGood S a
    → IsGood S b → GoodIf S (conditional_of c a b)
conditional_good S c a b f g h = if_good S (is_scalar c.type) _ _
    (λ s. chosen_if S c a b (branch_type a b) f g h s (branches S a b g h)) (λ s. tt)

pub comma_good : (S : Setting) (a b : TypedNode) → IsGood S a → IsGood S b
    → GoodIf S (comma_of a b)
comma_good S a b g h = record {
  sound = and_true (as_is_sound S a g) (as_is_sound S b h);
  sized = h.sized;
  zero = λ z. absurd (cc);
}
