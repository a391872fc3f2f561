-- What passes the rules has the form of a function that is right.
use Rattle.std.proofs.Common.{◌≡◌, ℕ, ◌+◌, ◌^◌, Bool, true, false, not, ◌&&◌, ◌||◌, eqb, ltb, List, [], ◌∷◌, ◌++◌, Option, Some, None, refl, sym, ap, subst, ◌∙◌, inl, inr}
use Rattle.std.proofs.lemmas.Bool.{false≢true, and_parts, or_cases, ltb-true, eqb-true, ne_eqb, not-true}
use Rattle.frame_rules.specs.Words.{UnwindCode, operations, FetchedInstr, has_frame, sets_frame, are_allowed, is_ordered, bytes, is_step, are_sized, PrologueStep, items, codes_onto, ArePrologueSteps, RulesAreRight}
use Rattle.frame_rules.specs.Validated.{turned, fits, before, with_step, three, steps, are_steps, has_codes, has_prologue, has_body}

turned_twice : (done cs : List UnwindCode) → turned [] (turned done cs) ≡ turned cs done
turned_twice done [] = refl
turned_twice done (c ∷ cs) = turned_twice (c ∷ done) cs

-- the steps of codes and instructions
pub record Has (f offset at : ℕ) (done cs : List UnwindCode) (xs : List FetchedInstr)
    (ss : List PrologueStep) : Type 0 where
  pub are : ArePrologueSteps f offset at ss
  pub spelled : items ss ≡ xs
  pub codes : codes_onto done ss ≡ turned done cs

some_steps : {x y : List PrologueStep} → Some x ≡ Some y → x ≡ y
some_steps e = cc

pub record Before (s : PrologueStep) (o : Option (List PrologueStep))
    (ss : List PrologueStep) : Type 0 where
  pub rest : List PrologueStep
  pub is : o ≡ Some rest
  pub all : s ∷ rest ≡ ss

was_before : (s : PrologueStep) (o : Option (List PrologueStep)) (ss : List PrologueStep)
    → before s o ≡ Some ss → Before s o ss
was_before s (Some r) ss e = record { rest = r; is = refl; all = some_steps e }
was_before s None ss e = absurd cc

joined : (f offset at : ℕ) (done cs : List UnwindCode) (c : UnwindCode) (its xs : List FetchedInstr)
    (rest ss : List PrologueStep) → fits f offset at c its ≡ true
    → Has f offset c.offset (c ∷ done) cs xs rest
    → (let s : PrologueStep = record { code = c; items = its } in s ∷ rest ≡ ss)
    → Has f offset at done (c ∷ cs) (its ++ xs) ss
joined f offset at done cs c its xs rest ss h r e =
    let p = and_parts (is_step f offset c.operation its)
    (are_sized its && eqb c.offset (at + bytes its)) h in
    let q = and_parts (are_sized its) (eqb c.offset (at + bytes its)) p.1 in
    let end = eqb-true c.offset (at + bytes its) q.1 in
    subst (Has f offset at done (c ∷ cs) (its ++ xs)) e (record {
      are = (
        record { does = p.0; sized = q.0; ends = end },
        subst (λ a. ArePrologueSteps f offset a rest) end r.are,
      );
      spelled = ap (λ (ys : List FetchedInstr). its ++ ys) r.spelled;
      codes = r.codes;
    })

pub has_steps : (f offset at : ℕ) (done cs : List UnwindCode) (xs : List FetchedInstr)
    (ss : List PrologueStep) → steps f offset at cs xs ≡ Some ss → Has f offset at done cs xs ss
has_steps f offset at done [] [] ss e = subst (Has f offset at done [] []) (some_steps e)
    (record { are = tt; spelled = refl; codes = refl })
has_steps f offset at done [] (x ∷ xs) ss e = absurd cc
has_steps f offset at done (c ∷ cs) [] ss e = absurd cc
has_steps f offset at done (c ∷ cs) (x ∷ xs) ss e = first
    (λ ys rest h. has_steps f offset c.offset (c ∷ done) cs ys rest h) (fits f offset at c (x ∷ []))
    refl e
  where
    second : ((ys : List FetchedInstr) (rest : List PrologueStep)
        → steps f offset c.offset cs ys ≡ Some rest → Has f offset c.offset (c ∷ done) cs ys rest)
        → (xs : List FetchedInstr) → three f offset at c (steps f offset c.offset cs) (x ∷ xs)
        ≡ Some ss → Has f offset at done (c ∷ cs) (x ∷ xs) ss
    second more [] e = absurd cc
    second more (y ∷ []) e = absurd cc
    second more (y ∷ z ∷ xs) e = go (fits f offset at c (x ∷ y ∷ z ∷ [])) refl e
      where
        go : (b : Bool) → fits f offset at c (x ∷ y ∷ z ∷ []) ≡ b
            → with_step c (x ∷ y ∷ z ∷ []) (steps f offset c.offset cs xs) b None ≡ Some ss
            → Has f offset at done (c ∷ cs) (x ∷ y ∷ z ∷ xs) ss
        go true is e =
            let s : PrologueStep = record { code = c; items = x ∷ y ∷ z ∷ [] } in
            let b = was_before s (steps f offset c.offset cs xs) ss e in
            joined f offset at done cs c (x ∷ y ∷ z ∷ []) xs b.rest ss is (more xs b.rest b.is)
            b.all
        go false is e = absurd cc

    first : ((ys : List FetchedInstr) (rest : List PrologueStep)
        → steps f offset c.offset cs ys ≡ Some rest → Has f offset c.offset (c ∷ done) cs ys rest)
        → (b : Bool) → fits f offset at c (x ∷ []) ≡ b
        → with_step c (x ∷ []) (steps f offset c.offset cs xs) b
        (three f offset at c (steps f offset c.offset cs) (x ∷ xs)) ≡ Some ss
        → Has f offset at done (c ∷ cs) (x ∷ xs) ss
    first more true is e =
        let s : PrologueStep = record { code = c; items = x ∷ [] } in
        let b = was_before s (steps f offset c.offset cs xs) ss e in
        joined f offset at done cs c (x ∷ []) xs b.rest ss is (more xs b.rest b.is) b.all
    first more false is e = second more xs e

steps_of : (o : Option (List PrologueStep)) → are_steps o ≡ true
    → (ss : List PrologueStep) × (o ≡ Some ss)
steps_of (Some ss) e = (ss, refl)
steps_of None e = absurd (false≢true e)

pub rules_are_right : RulesAreRight
rules_are_right i xs ys h =
    let f = i.frame_register in
    let off = i.frame_offset in
    let a = and_parts (ltb off (2 ^ 16)) (has_codes i && (has_prologue i xs && has_body i ys)) h in
    let b = and_parts (has_codes i) (has_prologue i xs && has_body i ys) a.1 in
    let c = and_parts (has_prologue i xs) (has_body i ys) b.1 in
    let codes = and_parts (are_allowed f (operations i.codes))
    (not (has_frame i) || sets_frame (operations i.codes)) b.0 in
    let p = and_parts (is_ordered (operations i.codes))
    (eqb i.prologue_size (bytes xs) && are_steps (steps f off 0 (turned [] i.codes) xs)) c.0 in
    let q = and_parts (eqb i.prologue_size (bytes xs))
    (are_steps (steps f off 0 (turned [] i.codes) xs)) p.1 in
    let s = steps_of (steps f off 0 (turned [] i.codes) xs) q.1 in
    let has = has_steps f off 0 [] (turned [] i.codes) xs s.0 s.1 in
    record {
      steps = s.0;
      spelled = has.spelled;
      right = record {
        offset = ltb-true off (2 ^ 16) a.0;
        codes = sym (has.codes ∙ turned_twice [] i.codes);
        prologue_size = eqb-true i.prologue_size (bytes xs) q.0 ∙ ap bytes (sym has.spelled);
        steps = has.are;
        ordered = p.0;
        allowed = codes.0;
        frame = λ ne. elim (or_cases (not (has_frame i)) (sets_frame (operations i.codes))
            codes.1) [
              | inl none ↦ absurd (false≢true (sym (not-true (has_frame i) none)
                  ∙ ap not (ne_eqb f 0 ne)))
              | inr set ↦ set
            ];
        body = c.1;
      };
    }
