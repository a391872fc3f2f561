-- The code of an expression ends with its value in one more temporary, and its jumps lead to places
-- that hold as many as they leave.
use Rattle.std.proofs.Common.{◌≡◌, ℕ, ◌+◌, ◌-◌, List, [], ◌∷◌, ◌++◌, refl, sym, ap, ◌∙◌, arith}
use Rattle.std.specs.Prelude.{Option, Some, None}
use Rattle.lowering_invariants.specs.Words.{Pure, Conversion, Kept, Extend, Scale, Expression, On, Node, Lvalue, Global, Stacked, Indirection, Element, Arguments, Done, Temporary, Instruction, ExceptionSource, NoException, OfFilter, KeptIn, Names, address_count, locate_size, read_size, conversion_size, expression_size, constant, combine, conversion_code, unary_code, choice_code, code_code, abnormal_code, read_code, write_code, address_code, expression_code, locate_code, arguments_code, node_code, after}
use Rattle.c_operations.specs.declared.operation.Pure.TheVariants as pures
use Rattle.c_checked.specs.Expression as nodes
use Rattle.c_checked.specs.Expression.{Next}
use Rattle.linear_code.specs.declared.instruction.Instruction.TheVariants as instructions
use Rattle.lowering_invariants.proofs.Lemmas.{expression_length, locate_length, conversion_length, read_length}
use Rattle.lowering_invariants.proofs.Scans.{past, past_to, past_both, Scans, scan_start, scan_moved, scan_front, scan_back, scan_end, Leads, AllLead, lead_both, lead_moved}

-- ---- depths

conversion_past : (c : Conversion) (d : ℕ) → past (conversion_code c d) (d + 1) ≡ d + 1
conversion_past Kept d = refl
conversion_past (Extend s from size) d = refl
conversion_past (Scale s from by) d = refl

unary_past : (o : Pure) (d : ℕ) → past (unary_code o d) (d + 1) ≡ d + 1
unary_past pures.First d = refl
unary_past o d = refl

read_past : (p : Lvalue) (address to d : ℕ) → past (read_code p address to) d ≡ to + 1
read_past (nodes.Local x) address to d = refl
read_past p address to d = refl

-- the value of an assignment stays where it is, or comes to the first temporary
write_past : (p : Lvalue) (d : ℕ) → after (write_code p d (d + address_count p) d)
    (d + address_count p + 1) ≡ d + 1
write_past (nodes.Local x) d = omega arith
write_past (Global access a) d = refl
write_past (Stacked access base offset) d = refl
write_past (Indirection access e) d = refl
write_past (Element access e i) d = refl

code_past : (s : ExceptionSource) (d x : ℕ) → after (code_code s d) x ≡ d + 1
code_past NoException d x = refl
code_past OfFilter d x = refl
code_past (KeptIn y) d x = refl

flag_past : (s : Option ℕ) (d x : ℕ) → after (abnormal_code s d) x ≡ d + 1
flag_past None d x = refl
flag_past (Some y) d x = refl

address_past : (p : Lvalue) (d : ℕ) (located : List Instruction)
    → past located d ≡ d + address_count p → past (address_code p d located) d ≡ d + 1
address_past (nodes.Local x) d located h = refl
address_past (Global access a) d located h = h
address_past (Stacked access base offset) d located h = h
address_past (Indirection access e) d located h = h
address_past (Element access e i) d located h = h

one_less : (d : ℕ) → d + 1 - 1 ≡ d
one_less d = omega arith

module _ (names : Names) where
  mutual
    pub expression_past : (e : Expression) (d at : ℕ)
        → past (expression_code names e d at) d ≡ d + 1
    expression_past (On node c) d at = past_both (node_code names node d at) (conversion_code c d) d
        (d + 1) (d + 1) (node_past node d at) (conversion_past c d)

    locate_past : (p : Lvalue) (d at : ℕ) → past (locate_code names p d at) d ≡ d + address_count p
    locate_past (nodes.Local x) d at = omega arith
    locate_past (Global access a) d at = refl
    locate_past (Stacked access base offset) d at = refl
    locate_past (Indirection access e) d at = expression_past e d at
    locate_past (Element access e i) d at = past_to (expression_code names e d at) _ d (d + 1)
        (λ x. past_to (expression_code names i (d + 1) _) (_ ∷ []) x (d + 1) (λ y. refl))

    node_past : (node : Node) (d at : ℕ) → past (node_code names node d at) d ≡ d + 1
    node_past (nodes.Constant z v) d at = refl
    node_past (nodes.StackedArray base offset) d at = refl
    node_past (nodes.Read p) d at = past_to (locate_code names p d at) (read_code p d d) d (d + 1)
        (read_past p d d)
    node_past (nodes.AddressOf p) d at = address_past p d (locate_code names p d at)
        (locate_past p d at)
    node_past (nodes.Assign p e) d at =
        let from = d + address_count p in
        let code = expression_code names e from (at + locate_size p) in
        past_both (locate_code names p d at) _ d from (d + 1) (locate_past p d at)
        (past_both code (_ ∷ []) from (from + 1) (d + 1)
        (expression_past e from (at + locate_size p)) (write_past p d))
    node_past (nodes.CompoundAssign p before o e after') d at =
        let old = d + address_count p in
        let place = at + (locate_size p + (read_size p + conversion_size before)) in
        past_to (locate_code names p d at) _ d (d + 1) (λ x.
        past_to (read_code p d old) _ x (d + 1) (λ y.
        past_to (conversion_code before old) _ y (d + 1) (λ z.
        past_to (expression_code names e (old + 1) place) _ z (d + 1) (λ u.
        past_both (conversion_code after' old) (_ ∷ []) (old + 1) (old + 1) (d + 1)
        (conversion_past after' old) (write_past p d)))))
    node_past (nodes.Increment m p before o v after') d at =
        let old = d + address_count p in
        past_to (locate_code names p d at) _ d (d + 1) (λ x.
        past_to (read_code p d old) _ x (d + 1) (λ y.
        past_to (conversion_code before (old + 1)) _ (old + 1 + 1) (d + 1) (λ z.
        past_to (conversion_code after' (old + 1)) _ (old + 1 + 1) (d + 1) (λ u. refl))))
    node_past (nodes.Unary o e) d at = past_both (expression_code names e d at) (unary_code o d) d
        (d + 1) (d + 1) (expression_past e d at) (unary_past o d)
    node_past (nodes.Binary o e f) d at = past_to (expression_code names e d at) _ d (d + 1)
        (λ x. past_to (expression_code names f (d + 1) _) (_ ∷ []) x (d + 1) (λ y. refl))
    node_past (nodes.PointerDifference v e f) d at = past_to (expression_code names e d at) _ d
        (d + 1) (λ x. past_to (expression_code names f (d + 1) _) (_ ∷ _ ∷ _ ∷ []) x (d + 1)
        (λ y. refl))
    node_past (nodes.Not e) d at = past_to (expression_code names e d at) _ d (d + 1) (λ x. refl)
    node_past (nodes.And e f) d at = past_to (expression_code names e d at) _ d (d + 1)
        (λ x. past_to (expression_code names f d _) _ d (d + 1) (λ y. refl))
    node_past (nodes.Or e f) d at = past_to (expression_code names e d at) _ d (d + 1)
        (λ x. past_to (expression_code names f d _) _ (d + 1 - 1) (d + 1) (λ y. refl))
    node_past (nodes.Conditional c e f) d at =
        let yes = at + expression_size c + 1 in
        let no = yes + expression_size e + 1 in
        past_to (expression_code names c d at) _ d (d + 1) (λ x.
        past_both (expression_code names e d yes) _ d (d + 1) (d + 1) (expression_past e d yes)
        (ap (past (expression_code names f d no)) (one_less d) ∙ expression_past f d no))
    node_past (nodes.Comma e f) d at = past_to (expression_code names e d at) _ d (d + 1)
        (λ x. past_to (expression_code names f (d + 1) _) (_ ∷ []) x (d + 1) (λ y. refl))
    node_past (nodes.Call f es) d at = past_to (arguments_code names es d at) (_ ∷ []) d (d + 1)
        (λ x. refl)
    node_past (nodes.CallBuiltIn k es) d at = past_to (arguments_code names es d at) (_ ∷ []) d
        (d + 1) (λ x. refl)
    node_past nodes.ExceptionCode d at = code_past names.exception d d
    node_past (nodes.Information f) d at = refl
    node_past nodes.AbnormalTermination d at = flag_past names.abnormal d d

-- ---- jumps

module _ (depth : ℕ → ℕ) where
  abbrev All : ℕ → List Instruction → Type 0
  All d is = AllLead depth d is

  abbrev At : (at d : ℕ) → List Instruction → Type 0
  At at d is = Scans depth at d is

  conversion_leads : (c : Conversion) (d x : ℕ) → All x (conversion_code c d)
  conversion_leads Kept d x = tt
  conversion_leads (Extend s from size) d x = (tt, tt)
  conversion_leads (Scale s from by) d x = (tt, (tt, tt))

  unary_leads : (o : Pure) (d x : ℕ) → All x (unary_code o d)
  unary_leads pures.First d x = tt
  unary_leads o d x = (tt, (tt, tt))

  read_leads : (p : Lvalue) (address to x : ℕ) → All x (read_code p address to)
  read_leads (nodes.Local y) address to x = (tt, tt)
  read_leads (Global access a) address to x = (tt, (tt, tt))
  read_leads (Stacked access base offset) address to x = (tt, (tt, tt))
  read_leads (Indirection access e) address to x = (tt, (tt, tt))
  read_leads (Element access e i) address to x = (tt, (tt, tt))

  write_leads : (p : Lvalue) (address from to x : ℕ) → Leads depth x (write_code p address from to)
  write_leads (nodes.Local y) address from to x = tt
  write_leads p address from to x = tt

  code_leads : (s : ExceptionSource) (d x : ℕ) → Leads depth x (code_code s d)
  code_leads NoException d x = tt
  code_leads OfFilter d x = tt
  code_leads (KeptIn y) d x = tt

  flag_leads : (s : Option ℕ) (d x : ℕ) → Leads depth x (abnormal_code s d)
  flag_leads None d x = tt
  flag_leads (Some y) d x = tt

  address_leads : (p : Lvalue) (d x : ℕ) (located : List Instruction) → All x located
      → All x (address_code p d located)
  address_leads (nodes.Local y) d x located h = (tt, tt)
  address_leads (Global access a) d x located h = h
  address_leads (Stacked access base offset) d x located h = h
  address_leads (Indirection access e) d x located h = h
  address_leads (Element access e i) d x located h = h

  -- where its two parts begin, and where it ends
  choice_begins : (d at instead other : ℕ) → At at (d + 1) (choice_code d at instead other)
      → depth (at + 3) ≡ d
  choice_begins d at instead other h = let e : at + 1 + 1 + 1 ≡ at + 3 = omega arith in
      ap depth (sym e) ∙ h.1.1.1.0 ∙ one_less d

  choice_ends : (d at instead other : ℕ) → At at (d + 1) (choice_code d at instead other)
      → depth (at + 4) ≡ d + 1
  choice_ends d at instead other h = let e : at + 1 + 1 + 1 + 1 ≡ at + 4 = omega arith in
      ap depth (sym e) ∙ h.1.1.1.1

  choice_leads : (d at instead other : ℕ) → At at (d + 1) (choice_code d at instead other)
      → All (d + 1) (choice_code d at instead other)
  choice_leads d at instead other h = (
    choice_begins d at instead other h,
    (tt, (choice_ends d at instead other h, (tt, tt))),
  )

  module _ (names : Names) where
    operands_lead : (e f : Expression) (d at : ℕ) (rest : List Instruction)
        → At at d (expression_code names e d at
        ++ (expression_code names f (d + 1) (at + expression_size e) ++ rest))
        → (At at d (expression_code names e d at) → All d (expression_code names e d at))
        → (At (at + expression_size e) (d + 1)
        (expression_code names f (d + 1) (at + expression_size e))
        → All (d + 1) (expression_code names f (d + 1) (at + expression_size e)))
        → ((x : ℕ) → All x rest) → All d (expression_code names e d at
        ++ (expression_code names f (d + 1) (at + expression_size e) ++ rest))
    operands_lead e f d at rest h p q r =
        let code = expression_code names f (d + 1) (at + expression_size e) in
        let l = expression_length names e d at in
        let a = expression_past names e d at in
        let second = scan_back depth at (at + expression_size e) d (d + 1)
        (expression_code names e d at) (code ++ rest) (omega arith) a h in
        lead_both depth (expression_code names e d at) (code ++ rest) d (d + 1) a
        (p (scan_front depth at d (expression_code names e d at) (code ++ rest) h))
        (lead_both depth code rest (d + 1) (d + 1 + 1)
        (expression_past names f (d + 1) (at + expression_size e))
        (q (scan_front depth (at + expression_size e) (d + 1) code rest second)) (r (d + 1 + 1)))

    located_scan : (p : Lvalue) (d at : ℕ) → At at d (address_code p d (locate_code names p d at))
        → At at d (locate_code names p d at)
    located_scan (nodes.Local x) d at h = h.0
    located_scan (Global access a) d at h = h
    located_scan (Stacked access base offset) d at h = h
    located_scan (Indirection access e) d at h = h
    located_scan (Element access e i) d at h = h

    mutual
      pub expression_leads : (e : Expression) (d at : ℕ) → At at d (expression_code names e d at)
          → All d (expression_code names e d at)
      expression_leads (On node c) d at h =
          lead_both depth (node_code names node d at) (conversion_code c d) d (d + 1)
          (node_past names node d at) (node_leads node d at
          (scan_front depth at d (node_code names node d at) (conversion_code c d) h))
          (conversion_leads c d (d + 1))

      locate_leads : (p : Lvalue) (d at : ℕ) → At at d (locate_code names p d at)
          → All d (locate_code names p d at)
      locate_leads (nodes.Local x) d at h = tt
      locate_leads (Global access a) d at h = (tt, tt)
      locate_leads (Stacked access base offset) d at h = (tt, (tt, tt))
      locate_leads (Indirection access e) d at h = expression_leads e d at h
      locate_leads (Element access e i) d at h = operands_lead e i d at (_ ∷ []) h
          (expression_leads e d at) (expression_leads i (d + 1) (at + expression_size e))
          (λ x. (tt, tt))

      arguments_lead : (es : Arguments) (d at : ℕ) → At at d (arguments_code names es d at)
          → All d (arguments_code names es d at)
      arguments_lead Done d at h = tt
      arguments_lead (Next e es) d at h =
          let code = expression_code names e d at in
          let rest = arguments_code names es (d + 1) (at + expression_size e) in
          let l = expression_length names e d at in
          let a = expression_past names e d at in
          lead_both depth code rest d (d + 1) a
          (expression_leads e d at (scan_front depth at d code rest h))
          (arguments_lead es (d + 1) (at + expression_size e)
          (scan_back depth at (at + expression_size e) d (d + 1) code rest (omega arith) a h))

      node_leads : (node : Node) (d at : ℕ) → At at d (node_code names node d at)
          → All d (node_code names node d at)
      node_leads (nodes.Constant z v) d at h = (tt, tt)
      node_leads (nodes.StackedArray base offset) d at h = (tt, (tt, tt))
      node_leads (nodes.Read p) d at h =
          let code = locate_code names p d at in
          lead_both depth code (read_code p d d) d (d + address_count p) (locate_past names p d at)
          (locate_leads p d at (scan_front depth at d code (read_code p d d) h))
          (read_leads p d d (d + address_count p))
      node_leads (nodes.AddressOf p) d at h = address_leads p d d (locate_code names p d at)
          (locate_leads p d at (located_scan p d at h))
      node_leads (nodes.Assign p e) d at h =
          let from = d + address_count p in
          let located = locate_code names p d at in
          let code = expression_code names e from (at + locate_size p) in
          let l = locate_length names p d at in
          let a = locate_past names p d at in
          let last = write_code p d from d ∷ [] in
          let second = scan_back depth at (at + locate_size p) d from located (code ++ last)
          (omega arith) a h in
          lead_both depth located (code ++ last) d from a
          (locate_leads p d at (scan_front depth at d located (code ++ last) h))
          (lead_both depth code last from (from + 1)
          (expression_past names e from (at + locate_size p))
          (expression_leads e from (at + locate_size p)
          (scan_front depth (at + locate_size p) from code last second))
          (write_leads p d from d (from + 1), tt))
      node_leads (nodes.CompoundAssign p before o e after') d at h =
          let old = d + address_count p in
          let located = locate_code names p d at in
          let reads = read_code p d old in
          let converts = conversion_code before old in
          let at1 = at + locate_size p in
          let at2 = at1 + read_size p in
          let place = at + (locate_size p + (read_size p + conversion_size before)) in
          let code = expression_code names e (old + 1) place in
          let last = combine old o ∷ (conversion_code after' old ++ write_code p d old d ∷ []) in
          let l0 = locate_length names p d at in
          let l1 = read_length p d old in
          let l2 = conversion_length before old in
          let a = locate_past names p d at in
          let h1 = scan_back depth at at1 d old located (reads ++ (converts ++ (code ++ last)))
          (omega arith) a h in
          let h2 = scan_back depth at1 at2 old (old + 1) reads (converts ++ (code ++ last))
          (omega arith) (read_past p d old old) h1 in
          let h3 = scan_back depth at2 place (old + 1) (old + 1) converts (code ++ last)
          (omega arith) (conversion_past before old) h2 in
          lead_both depth located _ d old a (locate_leads p d at
          (scan_front depth at d located (reads ++ (converts ++ (code ++ last))) h))
          (lead_both depth reads _ old (old + 1) (read_past p d old old) (read_leads p d old old)
          (lead_both depth converts _ (old + 1) (old + 1) (conversion_past before old)
          (conversion_leads before old (old + 1))
          (lead_both depth code last (old + 1) (old + 1 + 1)
          (expression_past names e (old + 1) place)
          (expression_leads e (old + 1) place (scan_front depth place (old + 1) code last h3)) (
            tt,
            lead_both depth (conversion_code after' old) _ (old + 1) (old + 1)
                (conversion_past after' old) (conversion_leads after' old (old + 1))
                (write_leads p d old d (old + 1), tt),
          ))))
      node_leads (nodes.Increment m p before o v after') d at h =
          let old = d + address_count p in
          let located = locate_code names p d at in
          let converted = conversion_leads before (old + 1) (old + 1 + 1) in
          lead_both depth located _ d old (locate_past names p d at)
          (locate_leads p d at (scan_front depth at d located _ h))
          (lead_both depth (read_code p d old) _ old (old + 1) (read_past p d old old)
          (read_leads p d old old) (
            tt,
            lead_both depth (conversion_code before (old + 1)) _ (old + 1 + 1) (old + 1 + 1)
                (conversion_past before (old + 1)) converted (
                  tt,
                  (
                    tt,
                    lead_both depth (conversion_code after' (old + 1)) _ (old + 1 + 1)
                        (old + 1 + 1) (conversion_past after' (old + 1))
                        (conversion_leads after' (old + 1) (old + 1 + 1))
                        (write_leads p d (old + 1) (old + 1) (old + 1 + 1), (tt, tt)),
                  ),
                ),
          ))
      node_leads (nodes.Unary o e) d at h =
          let code = expression_code names e d at in
          lead_both depth code (unary_code o d) d (d + 1) (expression_past names e d at)
          (expression_leads e d at (scan_front depth at d code (unary_code o d) h))
          (unary_leads o d (d + 1))
      node_leads (nodes.Binary o e f) d at h = operands_lead e f d at (_ ∷ []) h
          (expression_leads e d at) (expression_leads f (d + 1) (at + expression_size e))
          (λ x. (tt, tt))
      node_leads (nodes.PointerDifference v e f) d at h = operands_lead e f d at (_ ∷ _ ∷ _ ∷ []) h
          (expression_leads e d at) (expression_leads f (d + 1) (at + expression_size e))
          (λ x. (tt, (tt, (tt, tt))))
      node_leads (nodes.Not e) d at h =
          let code = expression_code names e d at in
          let last = choice_code d (at + expression_size e) 1 0 in
          let l = expression_length names e d at in
          let a = expression_past names e d at in
          lead_both depth code last d (d + 1) a
          (expression_leads e d at (scan_front depth at d code last h))
          (choice_leads d (at + expression_size e) 1 0
          (scan_back depth at (at + expression_size e) d (d + 1) code last (omega arith) a h))
      node_leads (nodes.And e f) d at h =
          let second = at + expression_size e + 1 in
          let otherwise = second + expression_size f + 3 in
          let code = expression_code names e d at in
          let more = expression_code names f d second in
          let at' = second + expression_size f in
          let last = choice_code d at' 0 1 in
          let l = expression_length names e d at in
          let l' = expression_length names f d second in
          let a = expression_past names e d at in
          let b = expression_past names f d second in
          let rest = instructions.JumpIfZero (Temporary d) otherwise ∷ (more ++ last) in
          let h1 = scan_back depth at (at + expression_size e) d (d + 1) code rest (omega arith) a
          h in
          let h2 = scan_back depth second at' d (d + 1) more last (omega arith) b h1.1 in
          lead_both depth code rest d (d + 1) a
          (expression_leads e d at (scan_front depth at d code rest h)) (
            choice_begins d at' 0 1 h2,
            lead_both depth more last d (d + 1) b
                (expression_leads f d second (scan_front depth second d more last h1.1))
                (choice_leads d at' 0 1 h2),
          )
      node_leads (nodes.Or e f) d at h =
          let second = at + expression_size e + 3 in
          let end = second + expression_size f + 4 in
          let code = expression_code names e d at in
          let more = expression_code names f d second in
          let at' = second + expression_size f in
          let last = choice_code d at' 0 1 in
          let l = expression_length names e d at in
          let l' = expression_length names f d second in
          let a = expression_past names e d at in
          let b = expression_past names f d second in
          let rest = instructions.JumpIfZero (Temporary d) second ∷ constant d 1
          ∷ instructions.Jump end ∷ (more ++ last) in
          let h1 = scan_back depth at (at + expression_size e) d (d + 1) code rest (omega arith) a
          h in
          let h2 = scan_moved depth (at + expression_size e + 1 + 1 + 1) second (d + 1 - 1) d
          (more ++ last) (omega arith) (one_less d) h1.1.1.1 in
          let h3 = scan_back depth second at' d (d + 1) more last (omega arith) b h2 in
          let tail = lead_both depth more last d (d + 1) b
          (expression_leads f d second (scan_front depth second d more last h2))
          (choice_leads d at' 0 1 h3) in
          lead_both depth code rest d (d + 1) a
          (expression_leads e d at (scan_front depth at d code rest h)) (
            scan_start depth second d (more ++ last) h2,
            (
              tt,
              (
                choice_ends d at' 0 1 h3,
                lead_moved depth d (d + 1 - 1) (more ++ last)
                    (sym (one_less d)) tail,
              ),
            ),
          )
      node_leads (nodes.Conditional t e f) d at h =
          let yes = at + expression_size t + 1 in
          let no = yes + expression_size e + 1 in
          let code = expression_code names t d at in
          let first = expression_code names e d yes in
          let second = expression_code names f d no in
          let l = expression_length names t d at in
          let l' = expression_length names e d yes in
          let l'' = expression_length names f d no in
          let a = expression_past names t d at in
          let b = expression_past names e d yes in
          let skip = instructions.Jump (no + expression_size f) in
          let rest = instructions.JumpIfZero (Temporary d) no ∷ (first ++ (skip ∷ second)) in
          let h1 = scan_back depth at (at + expression_size t) d (d + 1) code rest (omega arith) a
          h in
          let h2 = scan_back depth yes (yes + expression_size e) d (d + 1) first (skip ∷ second)
          (omega arith) b h1.1 in
          let h3 = scan_moved depth (yes + expression_size e + 1) no (d + 1 - 1) d second refl
          (one_less d) h2.1 in
          let end = scan_end depth no (no + expression_size f) d (d + 1) second (omega arith)
          (expression_past names f d no) h3 in
          lead_both depth code rest d (d + 1) a
          (expression_leads t d at (scan_front depth at d code rest h)) (
            scan_start depth no d second h3,
            lead_both depth first (skip ∷ second) d (d + 1) b
                (expression_leads e d yes (scan_front depth yes d first (skip ∷ second) h1.1)) (
                  end,
                  lead_moved depth d (d + 1 - 1) second (sym (one_less d))
                      (expression_leads f d no h3),
                ),
          )
      node_leads (nodes.Comma e f) d at h = operands_lead e f d at (_ ∷ []) h
          (expression_leads e d at) (expression_leads f (d + 1) (at + expression_size e))
          (λ x. (tt, tt))
      node_leads (nodes.Call f es) d at h =
          let code = arguments_code names es d at in
          lead_both depth code (_ ∷ []) d (past code d) refl
          (arguments_lead es d at (scan_front depth at d code (_ ∷ []) h)) (tt, tt)
      node_leads (nodes.CallBuiltIn k es) d at h =
          let code = arguments_code names es d at in
          lead_both depth code (_ ∷ []) d (past code d) refl
          (arguments_lead es d at (scan_front depth at d code (_ ∷ []) h)) (tt, tt)
      node_leads nodes.ExceptionCode d at h = (code_leads names.exception d d, tt)
      node_leads (nodes.Information f) d at h = (tt, tt)
      node_leads nodes.AbnormalTermination d at h = (flag_leads names.abnormal d d, tt)
