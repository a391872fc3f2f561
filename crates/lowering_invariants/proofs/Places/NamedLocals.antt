-- The code of an expression reads and writes only locals that it names, and those that keep a code
-- or a flag.
use Rattle.std.proofs.Common.{◌≡◌, ℕ, ◌+◌, List, [], ◌∷◌, ◌++◌, Bool, true, refl}
use Rattle.std.proofs.lemmas.Bool.{or_left, or_right, eq-eqb}
use Rattle.std.specs.List.{AllByRecursion}
use Rattle.std.specs.Prelude.{◌||◌, Option, Some, None}
use Rattle.lowering_invariants.specs.Words.{Pure, Access, Conversion, Kept, Extend, Scale, Expression, On, Node, Lvalue, Global, Stacked, Indirection, Element, Arguments, Done, Temporary, Instruction, ExceptionSource, NoException, OfFilter, KeptIn, Names, address_count, locate_size, read_size, conversion_size, expression_size, copy, combine, constant, conversion_code, unary_code, choice_code, code_code, abnormal_code, load_code, read_code, write_code, address_code, chosen_of, expression_code, locate_code, arguments_code, node_code}
use Rattle.c_operations.specs.declared.operation.Pure.TheVariants as pures
use Rattle.c_checked.specs.Expression as nodes
use Rattle.c_checked.specs.Expression.{Next}
use Rattle.lowering_registers.specs.Naming.{expression_names, node_names, lvalue_names, arguments_name}
use Rattle.lowering_invariants.specs.Registers.{SlotsHave}
use Rattle.lowering_invariants.proofs.Lemmas.{all_append}

-- ---- what keeps a code or a flag

abbrev pub SourceHas : (ℕ → Type 0) → ExceptionSource → Type 0
SourceHas L NoException = Unit {0}
SourceHas L OfFilter = Unit {0}
SourceHas L (KeptIn x) = L x

abbrev pub AbnormalHas : (ℕ → Type 0) → Option ℕ → Type 0
AbnormalHas L None = Unit {0}
AbnormalHas L (Some x) = L x

pub record NamesHave (L : ℕ → Type 0) (names : Names) : Type 0 where
  pub source : SourceHas L names.exception
  pub flag : AbnormalHas L names.abnormal

-- each local that a part names
abbrev pub NamedHave : (ℕ → Type 0) → (ℕ → Bool) → Type 0
NamedHave L named = (x : ℕ) → named x ≡ true → L x

module _ (L : ℕ → Type 0) (names : Names) (known : NamesHave L names) where
  abbrev Has : List Instruction → Type 0
  Has code = AllByRecursion (SlotsHave L) code

  abbrev In : Expression → Type 0
  In e = NamedHave L (λ x. expression_names x e)

  abbrev InPlace : Lvalue → Type 0
  InPlace p = NamedHave L (λ x. lvalue_names x p)

  append : (xs ys : List Instruction) → Has xs → Has ys → Has (xs ++ ys)
  append xs ys h k = all_append (SlotsHave L) xs ys h k

  conversion_has : (c : Conversion) (d : ℕ) → Has (conversion_code c d)
  conversion_has Kept d = tt
  conversion_has (Extend s from size) d = ((tt, tt, tt), tt)
  conversion_has (Scale s from by) d = ((tt, tt, tt), ((tt, tt, tt), tt))

  unary_has : (o : Pure) (d : ℕ) → Has (unary_code o d)
  unary_has pures.First d = tt
  unary_has o d = ((tt, tt, tt), ((tt, tt, tt), tt))

  choice_has : (d at instead other : ℕ) → Has (choice_code d at instead other)
  choice_has d at instead other = (tt, ((tt, tt, tt), (tt, ((tt, tt, tt), tt))))

  load_has : (access : Access) (address to : ℕ) → Has (load_code access address to)
  load_has access address to = ((tt, tt, tt), ((tt, tt, tt), tt))

  local_in : (x : ℕ) → InPlace (nodes.Local x) → L x
  local_in x h = h x (eq-eqb x x refl)

  read_has : (p : Lvalue) (address to : ℕ) → InPlace p → Has (read_code p address to)
  read_has (nodes.Local x) address to h = ((tt, local_in x h, local_in x h), tt)
  read_has (Global access a) address to h = load_has access address to
  read_has (Stacked access base offset) address to h = load_has access address to
  read_has (Indirection access e) address to h = load_has access address to
  read_has (Element access e i) address to h = load_has access address to

  write_has : (p : Lvalue) (address from to : ℕ) → InPlace p
      → SlotsHave L (write_code p address from to)
  write_has (nodes.Local x) address from to h = (local_in x h, tt, tt)
  write_has (Global access a) address from to h = (tt, tt, tt)
  write_has (Stacked access base offset) address from to h = (tt, tt, tt)
  write_has (Indirection access e) address from to h = (tt, tt, tt)
  write_has (Element access e i) address from to h = (tt, tt, tt)

  address_has : (p : Lvalue) (d : ℕ) (located : List Instruction) → Has located
      → Has (address_code p d located)
  address_has (nodes.Local x) d located h = ((tt, tt, tt), tt)
  address_has (Global access a) d located h = h
  address_has (Stacked access base offset) d located h = h
  address_has (Indirection access e) d located h = h
  address_has (Element access e i) d located h = h

  code_has : (s : ExceptionSource) (d : ℕ) → SourceHas L s → SlotsHave L (code_code s d)
  code_has NoException d h = (tt, tt, tt)
  code_has OfFilter d h = tt
  code_has (KeptIn x) d h = (tt, h, h)

  flag_has : (s : Option ℕ) (d : ℕ) → AbnormalHas L s → SlotsHave L (abnormal_code s d)
  flag_has None d h = (tt, tt, tt)
  flag_has (Some x) d h = (tt, h, h)

  -- of a part that has two parts
  left : (f g : ℕ → Bool) → NamedHave L (λ x. f x || g x) → NamedHave L f
  left f g h x e = h x (or_left (f x) (g x) e)

  right : (f g : ℕ → Bool) → NamedHave L (λ x. f x || g x) → NamedHave L g
  right f g h x e = h x (or_right (f x) (g x) e)

  abbrev InBoth : Expression → Expression → Type 0
  InBoth e f = NamedHave L (λ x. expression_names x e || expression_names x f)

  first : (e f : Expression) → InBoth e f → In e
  first e f h = left (λ x. expression_names x e) (λ x. expression_names x f) h

  second : (e f : Expression) → InBoth e f → In f
  second e f h = right (λ x. expression_names x e) (λ x. expression_names x f) h

  -- of an assignment: its target, and its value
  target : (p : Lvalue) (e : Expression)
      → NamedHave L (λ x. lvalue_names x p || expression_names x e) → InPlace p
  target p e h = left (λ x. lvalue_names x p) (λ x. expression_names x e) h

  value : (p : Lvalue) (e : Expression)
      → NamedHave L (λ x. lvalue_names x p || expression_names x e) → In e
  value p e h = right (λ x. lvalue_names x p) (λ x. expression_names x e) h

  -- the operands of an operator, the second in the next temporary, and what comes after them
  operands : (e f : Expression) (d at : ℕ) (rest : List Instruction)
      → Has (expression_code names e d at)
      → Has (expression_code names f (d + 1) (at + expression_size e)) → Has rest
      → Has (expression_code names e d at
      ++ (expression_code names f (d + 1) (at + expression_size e) ++ rest))
  operands e f d at rest p q h =
      let code = expression_code names f (d + 1) (at + expression_size e) in
      append (expression_code names e d at) (code ++ rest) p (append code rest q h)

  mutual
    pub expression_has : (e : Expression) (d at : ℕ) → In e → Has (expression_code names e d at)
    expression_has (On node c) d at h = append (node_code names node d at) (conversion_code c d)
        (node_has node d at h) (conversion_has c d)

    locate_has : (p : Lvalue) (d at : ℕ) → InPlace p → Has (locate_code names p d at)
    locate_has (nodes.Local x) d at h = tt
    locate_has (Global access a) d at h = ((tt, tt, tt), tt)
    locate_has (Stacked access base offset) d at h =
        ((tt, tt, tt), ((tt, h base (eq-eqb base base refl), tt), tt))
    locate_has (Indirection access e) d at h = expression_has e d at h
    locate_has (Element access e i) d at h = operands e i d at (_ ∷ [])
        (expression_has e d at (first e i h))
        (expression_has i (d + 1) (at + expression_size e) (second e i h)) ((tt, tt, tt), tt)

    arguments_have : (es : Arguments) (d at : ℕ) → NamedHave L (λ x. arguments_name x es)
        → Has (arguments_code names es d at)
    arguments_have Done d at h = tt
    arguments_have (Next e es) d at h =
        append (expression_code names e d at)
        (arguments_code names es (d + 1) (at + expression_size e))
        (expression_has e d at
        (left (λ x. expression_names x e) (λ x. arguments_name x es) h))
        (arguments_have es (d + 1) (at + expression_size e)
        (right (λ x. expression_names x e) (λ x. arguments_name x es) h))

    node_has : (node : Node) (d at : ℕ) → NamedHave L (λ x. node_names x node)
        → Has (node_code names node d at)
    node_has (nodes.Constant z v) d at h = ((tt, tt, tt), tt)
    node_has (nodes.StackedArray base offset) d at h =
        ((tt, tt, tt), ((tt, h base (eq-eqb base base refl), tt), tt))
    node_has (nodes.Read p) d at h = append (locate_code names p d at) (read_code p d d)
        (locate_has p d at h) (read_has p d d h)
    node_has (nodes.AddressOf p) d at h = address_has p d (locate_code names p d at)
        (locate_has p d at h)
    node_has (nodes.Assign p e) d at h =
        let from = d + address_count p in
        let code = expression_code names e from (at + locate_size p) in
        append (locate_code names p d at) (code ++ _ ∷ []) (locate_has p d at (target p e h))
        (append code (_ ∷ []) (expression_has e from (at + locate_size p) (value p e h))
        (write_has p d from d (target p e h), tt))
    node_has (nodes.CompoundAssign p before o e after) d at h =
        let old = d + address_count p in
        let place = at + (locate_size p + (read_size p + conversion_size before)) in
        let code = expression_code names e (old + 1) place in
        let last = conversion_code after old ++ write_code p d old d ∷ [] in
        append (locate_code names p d at) _ (locate_has p d at (target p e h))
        (append (read_code p d old) _ (read_has p d old (target p e h))
        (append (conversion_code before old) _ (conversion_has before old)
        (append code (combine old o ∷ last) (expression_has e (old + 1) place (value p e h)) (
          (tt, tt, tt),
          append (conversion_code after old) (_ ∷ []) (conversion_has after old)
              (write_has p d old d (target p e h), tt),
        ))))
    node_has (nodes.Increment m p before o v after) d at h =
        let old = d + address_count p in
        let last = write_code p d (old + 1) (old + 1)
        ∷ copy (Temporary d) (Temporary (chosen_of m old)) ∷ [] in
        append (locate_code names p d at) _ (locate_has p d at h)
        (append (read_code p d old) _ (read_has p d old h) (
          (tt, tt, tt),
          append (conversion_code before (old + 1)) _ (conversion_has before (old + 1)) (
            (tt, tt, tt),
            (
              (tt, tt, tt),
              append (conversion_code after (old + 1)) last (conversion_has after (old + 1))
                  (write_has p d (old + 1) (old + 1) h, ((tt, tt, tt), tt)),
            ),
          ),
        ))
    node_has (nodes.Unary o e) d at h = append (expression_code names e d at) (unary_code o d)
        (expression_has e d at h) (unary_has o d)
    node_has (nodes.Binary o e g) d at h = operands e g d at (_ ∷ [])
        (expression_has e d at (first e g h))
        (expression_has g (d + 1) (at + expression_size e) (second e g h)) ((tt, tt, tt), tt)
    node_has (nodes.PointerDifference v e g) d at h = operands e g d at (_ ∷ _ ∷ _ ∷ [])
        (expression_has e d at (first e g h))
        (expression_has g (d + 1) (at + expression_size e) (second e g h))
        ((tt, tt, tt), ((tt, tt, tt), ((tt, tt, tt), tt)))
    node_has (nodes.Not e) d at h = append (expression_code names e d at)
        (choice_code d (at + expression_size e) 1 0) (expression_has e d at h)
        (choice_has d (at + expression_size e) 1 0)
    node_has (nodes.And e g) d at h =
        let place = at + expression_size e + 1 in
        let code = expression_code names g d place in
        append (expression_code names e d at)
        (_ ∷ (code ++ choice_code d (place + expression_size g) 0 1))
        (expression_has e d at (first e g h)) (
          tt,
          append code (choice_code d (place + expression_size g) 0 1)
              (expression_has g d place (second e g h))
              (choice_has d (place + expression_size g) 0 1),
        )
    node_has (nodes.Or e g) d at h =
        let place = at + expression_size e + 3 in
        let code = expression_code names g d place in
        append (expression_code names e d at)
        (_ ∷ constant d 1 ∷ _ ∷ (code ++ choice_code d (place + expression_size g) 0 1))
        (expression_has e d at (first e g h)) (
          tt,
          (
            (tt, tt, tt),
            (
              tt,
              append code (choice_code d (place + expression_size g) 0 1)
                  (expression_has g d place (second e g h))
                  (choice_has d (place + expression_size g) 0 1),
            ),
          ),
        )
    node_has (nodes.Conditional t e g) d at h =
        let yes = at + expression_size t + 1 in
        let no = yes + expression_size e + 1 in
        let others = right (λ x. expression_names x t)
        (λ x. expression_names x e || expression_names x g) h in
        append (expression_code names t d at)
        (_ ∷ (expression_code names e d yes ++ _ ∷ expression_code names g d no))
        (expression_has t d at (left (λ x. expression_names x t)
        (λ x. expression_names x e || expression_names x g) h)) (
          tt,
          append (expression_code names e d yes) (_ ∷ expression_code names g d no)
              (expression_has e d yes (first e g others))
              (tt, expression_has g d no (second e g others)),
        )
    node_has (nodes.Comma e g) d at h = operands e g d at (_ ∷ [])
        (expression_has e d at (first e g h))
        (expression_has g (d + 1) (at + expression_size e) (second e g h)) ((tt, tt, tt), tt)
    node_has (nodes.Call g es) d at h = append (arguments_code names es d at) (_ ∷ [])
        (arguments_have es d at h) (tt, tt)
    node_has (nodes.CallBuiltIn k es) d at h = append (arguments_code names es d at) (_ ∷ [])
        (arguments_have es d at h) (tt, tt)
    node_has nodes.ExceptionCode d at h = (code_has names.exception d known.source, tt)
    node_has (nodes.Information field) d at h = (tt, tt)
    node_has nodes.AbnormalTermination d at h = (flag_has names.abnormal d known.flag, tt)
