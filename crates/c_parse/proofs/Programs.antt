-- Programs are read one external declaration after the other.
use Rattle.std.proofs.Common.{◌≡◌, ◌≤◌, ℕ, Bool, true, false, nat_eq, List, [], ◌∷◌, ◌++◌, length}
use Rattle.std.proofs.Common.{length-append, map, refl, sym, ap, ◌∙◌, subst, arith}
use Rattle.std.proofs.lemmas.List.{append-nil}
use Rattle.std.proofs.lemmas.Bool.{eqb-true}
use Rattle.c_parse.specs.Words.{Token, IsTokens, Alike, SameFirst, Failed, Number, order, every_limit, WithinFirst, Within, end_of_globals, funclets_of_all, funclets_in, bytes_from, ExternalDeclaration, Globals, Function, external_declaration, IsExternalDeclaration, IsProgram, ContinuesWithin, IsSyntaxFault, ParseErr, Unexpected, TooDeep, TooMany, Memory, IsPlacedRefusal, ParserRefuses, Counts, FitsCounts, Taken, NoExternalDeclaration, HasExternalDeclaration}
use Rattle.c_syntax.specs.declared.declaration.ExternalDeclaration.{ExternalDeclaration as ExternalDeclaration'}
use Rattle.c_parse.proofs.Lemmas.{append_append, alike_same, alike_inner, front, external_declaration_once, external_declaration_front}
use Rattle.c_syntax.proofs.FirstFault.{function_fewer, no_fault_in_program}
use Rattle.c_syntax.proofs.MovesPrograms as moves
use Rattle.c_parse.proofs.Beyond as beyond
use Rattle.c_parse.proofs.Placing.{grows}
use Rattle.c_parse.proofs.Refusing.{following}

-- ---- what was read

-- What was read, up to the rest, and the counts after it: whatever is in the rest's place, a
-- program of all tokens begins with it, and continues with a program of the rest that fits the
-- counts.
pub record Read (text : List ℕ) (ts : List Token) (found : List ExternalDeclaration')
    (rest : List Token) (counts : Counts) : Type 0 where
  pub front : List Token
  pub split : ts ≡ front ++ rest
  pub forward : (text' : List ℕ) (other : List Token) → Alike text text' ts
      → (xs : List ExternalDeclaration) → IsProgram text' xs other
      → IsProgram text' (map external_declaration found ++ xs) (front ++ other)
  pub back : (text' : List ℕ) (other : List Token) → Alike text text' ts
      → (xs : List ExternalDeclaration) → IsProgram text' xs (front ++ other)
      → (ys : List ExternalDeclaration) × (xs ≡ map external_declaration found ++ ys) × IsProgram
      text' ys other
  pub within : (n : ℕ) (text' : List ℕ) → Alike text text' ts → (xs : List ExternalDeclaration)
      → FitsCounts n text' counts xs → WithinFirst n text' (map external_declaration found ++ xs)
  pub fits : (n : ℕ) (text' : List ℕ) → Alike text text' ts → (xs : List ExternalDeclaration)
      → WithinFirst n text' (map external_declaration found ++ xs) → FitsCounts n text' counts xs
  pub low : counts.bytes ≤ 1048576

pub begins : (text : List ℕ) (ts : List Token) (counts : Counts) → counts.functions ≡ 4096
    → counts.bytes ≡ 0 → counts.funclets ≡ 16384 → Read text ts [] ts counts
begins text ts counts f b n = record {
  front = [];
  split = refl;
  forward = λ text' other a xs h. h;
  back = λ text' other a xs h. (xs, refl, h);
  within = λ k text' a xs w. record {
    each = w.each;
    functions = λ five. let o = w.functions five in omega arith;
    bytes = λ six. subst (λ (z : ℕ). bytes_from xs z ≤ 1048576) b (w.bytes six);
    numbered = λ seven. let u = w.funclets seven in omega arith;
  };
  fits = λ k text' a xs w. record {
    each = w.each;
    functions = λ five. let o = w.functions five in omega arith;
    bytes = λ six. subst (λ (z : ℕ). bytes_from xs z ≤ 1048576) (sym b) (w.bytes six);
    funclets = λ seven. let u = w.numbered seven in omega arith;
  };
  low = omega arith;
}

-- ---- one declaration more

more : (n : ℕ) (text : List ℕ) (counts less : Counts) (x : ExternalDeclaration)
    (xs : List ExternalDeclaration) → Taken text counts less x → FitsCounts n text less xs
    → FitsCounts n text counts (x ∷ xs)
more n text counts less (Globals b gs) xs t w =
    let p = t.functions in let v = t.funclets in record {
      each = w.each;
      functions = λ five. let o = w.functions five in omega arith;
      bytes = λ six. subst (λ (k : ℕ). bytes_from xs k ≤ 1048576) t.bytes (w.bytes six);
      funclets = λ seven. let u = w.funclets seven in omega arith;
    }
more n text counts less (Function r name ps body) xs t w =
    let p = t.functions in let v = t.funclets in
    let a = length-append (funclets_of_all text body) (funclets_in text xs) in
    let c = length-append (funclets_of_all text body) [] in record {
      each = (function_fewer every_limit n ps body (λ k a b. a) t.each.0, w.each);
      functions = λ five. let o = w.functions five in omega arith;
      bytes = λ six. subst (λ (k : ℕ). bytes_from xs k ≤ 1048576) t.bytes (w.bytes six);
      funclets = λ seven. let u = w.funclets seven in omega arith;
    }

fewer : (n : ℕ) (text : List ℕ) (counts less : Counts) (x : ExternalDeclaration)
    (xs : List ExternalDeclaration) → Taken text counts less x → FitsCounts n text counts (x ∷ xs)
    → FitsCounts n text less xs
fewer n text counts less (Globals b gs) xs t w =
    let p = t.functions in let v = t.funclets in record {
      each = w.each;
      functions = λ five. let o = w.functions five in omega arith;
      bytes = λ six. subst (λ (k : ℕ). bytes_from xs k ≤ 1048576) (sym t.bytes) (w.bytes six);
      funclets = λ seven. let u = w.funclets seven in omega arith;
    }
fewer n text counts less (Function r name ps body) xs t w =
    let p = t.functions in let v = t.funclets in
    let a = length-append (funclets_of_all text body) (funclets_in text xs) in
    let c = length-append (funclets_of_all text body) [] in record {
      each = w.each.1;
      functions = λ five. let o = w.functions five in omega arith;
      bytes = λ six. subst (λ (k : ℕ). bytes_from xs k ≤ 1048576) (sym t.bytes) (w.bytes six);
      funclets = λ seven. let u = w.funclets seven in omega arith;
    }

-- in each text that spells it alike
taken_in : (text text' : List ℕ) (counts less : Counts) (x : ExternalDeclaration)
    (ts rest : List Token) → IsExternalDeclaration text x ts rest → Alike text text' ts
    → Taken text counts less x → Taken text' counts less x
taken_in text text' counts less x ts rest is a t =
    let e = ap length (moves.funclets_in x text text' ts rest is a) in
    let v = t.funclets in
    record {
      each = t.each;
      functions = t.functions;
      bytes = t.bytes;
      low = t.low;
      funclets = omega arith;
    }

mapped : (found : List ExternalDeclaration') (x : ExternalDeclaration')
    (xs : List ExternalDeclaration)
    → map external_declaration (found ++ x ∷ []) ++ xs ≡ map external_declaration found
    ++ external_declaration x ∷ xs
mapped [] x xs = refl
mapped (y ∷ found) x xs = ap (λ (z : List ExternalDeclaration). external_declaration y ∷ z)
    (mapped found x xs)

rest_of : (text : List ℕ) (x : ExternalDeclaration) (ts rest : List Token)
    → IsExternalDeclaration text x ts rest → (ys : List ExternalDeclaration) → IsProgram text ys ts
    → (zs : List ExternalDeclaration) × (ys ≡ x ∷ zs) × IsProgram text zs rest
rest_of text x ts rest is [] h = let a = external_declaration_front text x ts rest is in let b =
    ap front h in absurd (omega arith)
rest_of text x ts rest is (y ∷ ys) h =
    let u = external_declaration_once text x y ts ts rest h.0 refl is h.1 in (
      ys,
      ap (λ (z : ExternalDeclaration). z ∷ ys)
          (sym u.0),
      subst (λ (z : List Token). IsProgram text ys z) (sym u.1) h.2,
    )

pub continues : (text : List ℕ) (ts rest after : List Token) (found : List ExternalDeclaration')
    (counts less : Counts) (x : ExternalDeclaration') → Read text ts found rest counts
    → IsExternalDeclaration text (external_declaration x) rest after
    → Taken text counts less (external_declaration x) → Read text ts (found ++ x ∷ []) after less
continues text ts rest after found counts less x d is t =
    let m = moves.external_declaration (external_declaration x) text rest after is in
    let inner : (text' : List ℕ) → Alike text text' ts → Alike text text' rest =
    λ text' a. alike_inner text text' d.front rest ts d.split a in record {
      front = d.front ++ m.front;
      split = d.split ∙ ap (λ (z : List Token). d.front ++ z) m.split
          ∙ sym (append_append d.front m.front after);
      forward = λ text' other a xs h.
          following (λ z. IsProgram text' (map external_declaration (found ++ x ∷ []) ++ xs) z)
          d.front m.front other
          (subst (λ (z : List ExternalDeclaration). IsProgram text' z
          (d.front ++ (m.front ++ other))) (sym (mapped found x xs))
          (d.forward text' (m.front ++ other) a (external_declaration x ∷ xs)
          (other, m.again text' other (inner text' a), h)));
      back = λ text' other a xs h.
          let r = d.back text' (m.front ++ other) a xs
          (subst (λ (z : List Token). IsProgram text' xs z)
          (append_append d.front m.front other) h) in
          let s = rest_of text' (external_declaration x) (m.front ++ other) other
          (m.again text' other (inner text' a)) r.0 r.2 in (
            s.0,
            r.1 ∙ ap (λ (z : List ExternalDeclaration). map external_declaration found ++ z) s.1
                ∙ sym (mapped found x s.0),
            s.2,
          );
      within = λ n text' a xs w. subst (λ (z : List ExternalDeclaration). WithinFirst n text' z)
          (sym (mapped found x xs))
          (d.within n text' a (external_declaration x ∷ xs)
          (more n text' counts less (external_declaration x) xs
          (taken_in text text' counts less (external_declaration x) rest after is (inner text' a) t)
          w));
      fits = λ n text' a xs w. fewer n text' counts less (external_declaration x) xs
          (taken_in text text' counts less (external_declaration x) rest after is (inner text' a) t)
          (d.fits n text' a (external_declaration x ∷ xs)
          (subst (λ (z : List ExternalDeclaration). WithinFirst n text' z) (mapped found x xs) w));
      low = t.low;
    }

-- ---- the end

pub ends : (text : List ℕ) (ts rest : List Token) (found : List ExternalDeclaration')
    (counts : Counts) → Read text ts found rest counts → rest ≡ []
    → IsProgram text (map external_declaration found) ts
ends text ts rest found counts d e =
    subst (λ (z : List Token). IsProgram text (map external_declaration found) z) (sym d.split)
    (subst (λ (z : List ExternalDeclaration). IsProgram text z (d.front ++ rest))
    (append-nil (map external_declaration found))
    (d.forward text rest (alike_same text ts) [] e))

pub within : (text : List ℕ) (ts rest : List Token) (found : List ExternalDeclaration')
    (counts : Counts) → Read text ts found rest counts
    → Within text (map external_declaration found)
within text ts rest found counts d =
    subst (λ (z : List ExternalDeclaration). Within text z)
    (append-nil (map external_declaration found))
    (d.within every_limit text (alike_same text ts) []
    (record {
      each = tt;
      functions = λ five. omega arith;
      bytes = λ six. d.low;
      funclets = λ seven. omega arith;
    }))

-- ---- refusals

-- where globals end grows with the declarations
bytes_grow : (xs : List ExternalDeclaration) (at : ℕ) → at ≤ bytes_from xs at
bytes_grow [] at = omega arith
bytes_grow (Globals b gs ∷ xs) at = let a = grows b gs at in let c =
    bytes_grow xs (end_of_globals b gs at) in omega arith
bytes_grow (Function r name ps body ∷ xs) at = bytes_grow xs at

one : (n : ℕ) (text : List ℕ) (counts : Counts) (x : ExternalDeclaration)
    (xs : List ExternalDeclaration) → FitsCounts n text counts (x ∷ xs)
    → FitsCounts n text counts (x ∷ [])
one n text counts (Globals b gs) xs w =
    let a = bytes_grow xs (end_of_globals b gs counts.bytes) in record {
      each = tt;
      functions = λ five. omega arith;
      bytes = λ six. let c = w.bytes six in omega arith;
      funclets = λ seven. omega arith;
    }
one n text counts (Function r name ps body) xs w =
    let a = bytes_grow xs counts.bytes in
    let e = length-append (funclets_of_all text body) (funclets_in text xs) in
    let f = length-append (funclets_of_all text body) [] in record {
      each = (w.each.0, tt);
      functions = λ five. let o = w.functions five in omega arith;
      bytes = λ six. let c = w.bytes six in omega arith;
      funclets = λ seven. let u = w.funclets seven in omega arith;
    }

not_empty : (xs : List Token) (t : Token) (ys : List Token) → xs ++ t ∷ ys ≡ [] → ⊥
not_empty [] t ys e = cc
not_empty (x ∷ xs) t ys e = cc

-- no program begins with what was read and continues with tokens that aren't empty and begin with
-- no external declaration
stuck : (n : ℕ) (text text' : List ℕ) (ts rest other : List Token)
    (found : List ExternalDeclaration') (counts : Counts) (xs : List ExternalDeclaration)
    → (d : Read text ts found rest counts) → Alike text text' ts → (other ≡ [] → ⊥)
    → NoExternalDeclaration counts n text' other → IsProgram text' xs (d.front ++ other)
    → WithinFirst n text' xs → ⊥
stuck n text text' ts rest other found counts xs d a e none h w =
    let r = d.back text' other a xs h in
    by r.0 r.2 (d.fits n text' a r.0
    (subst (λ (z : List ExternalDeclaration). WithinFirst n text' z) r.1 w))
  where
    by : (ys : List ExternalDeclaration) → IsProgram text' ys other → FitsCounts n text' counts ys
        → ⊥
    by [] g f = e g
    by (y ∷ ys) g f = none y g.0 g.1 (one n text' counts y ys f)

stops : (n at : ℕ) (text : List ℕ) (ts rest begin fault : List Token)
    (found : List ExternalDeclaration') (counts : Counts) (d : Read text ts found rest counts)
    → IsTokens text ts → (rest ≡ [] → ⊥)
    → (f : Failed n at (NoExternalDeclaration counts) (HasExternalDeclaration counts) text rest)
    → begin ≡ d.front ++ f.front → fault ≡ f.fault → ContinuesWithin n text begin fault → ⊥
stops n at text ts rest begin [] found counts d k e f p q h =
    let same = alike_same text ts in
    let r : rest ≡ f.front = f.split ∙ ap (λ (z : List Token). f.front ++ z) (sym q)
    ∙ append-nil f.front in
    let none : NoExternalDeclaration counts n text (f.front ++ []) =
    f.against text [] (alike_same text rest)
    (subst (λ (z : List Token). SameFirst z []) q refl) in
    stuck n text text ts rest f.front found counts h.0 d same (λ z. e (r ∙ z))
    (subst (λ (z : List Token). NoExternalDeclaration counts n text z) (append-nil f.front)
    none) (subst (λ (z : List Token). IsProgram text h.0 z) p h.1) h.2
stops n at text ts rest begin (t ∷ us) found counts d k e f p q h =
    let text' = text ++ h.beyond in
    let a = beyond.continues text h.beyond ts k in
    let o : (begin ++ t ∷ []) ++ h.more ≡ d.front ++ (f.front ++ t ∷ h.more) =
    append_append begin (t ∷ []) h.more ∙ ap (λ (z : List Token). z ++ t ∷ h.more) p
    ∙ append_append d.front f.front (t ∷ h.more) in
    stuck n text text' ts rest (f.front ++ t ∷ h.more) found counts h.program d a
    (not_empty f.front t h.more)
    (f.against text' (t ∷ h.more) (alike_inner text text' d.front rest ts d.split a)
    (subst (λ (z : List Token). SameFirst z (t ∷ h.more)) q (h.more, refl)))
    (subst (λ (z : List Token). IsProgram text' h.program z) o h.derives) h.within

-- what was read and one declaration more
joined : (n : ℕ) (text text' : List ℕ) (ts rest inner : List Token)
    (found : List ExternalDeclaration') (counts : Counts) → (d : Read text ts found rest counts)
    → Alike text text' ts → (h : HasExternalDeclaration counts n text' inner)
    → IsProgram text' (map external_declaration found ++ h.tree ∷ [])
    (d.front ++ inner) × WithinFirst n text' (map external_declaration found ++ h.tree ∷ [])
joined n text text' ts rest inner found counts d a h = (
  d.forward text' inner a (h.tree ∷ []) (
    [],
    subst (λ (z : List Token). IsExternalDeclaration text' h.tree z []) (append-nil inner)
        (h.is []),
    refl,
  ),
  d.within n text' a (h.tree ∷ []) h.fits,
)

pub fault : (n at : ℕ) (text : List ℕ) (ts rest : List Token) (found : List ExternalDeclaration')
    (counts : Counts) → Read text ts found rest counts → IsTokens text ts → (rest ≡ [] → ⊥)
    → Failed n at (NoExternalDeclaration counts) (HasExternalDeclaration counts) text rest
    → IsSyntaxFault n at text ts
fault n at text ts rest found counts d k e f =
    let text' = text ++ beyond.words in
    let a = beyond.continues text beyond.words ts k in
    let inner = alike_inner text text' d.front rest ts d.split a in record {
      front = d.front ++ f.front;
      fault = f.fault;
      split = d.split ∙ ap (λ (z : List Token). d.front ++ z) f.split
          ∙ sym (append_append d.front f.front f.fault);
      located = f.located;
      viable =
          let o = f.able text' inner (beyond.speaks text) in
          let j = joined every_limit text text' ts rest (f.front ++ o.more) found counts d a
          o.has in
          let xs = map external_declaration found ++ o.has.tree ∷ [] in
          record {
            beyond = beyond.words;
            more = o.more;
            program = xs;
            derives = following (λ z. IsProgram text' xs z) d.front f.front o.more j.0;
            within = j.1;
          };
      stops = stops n at text ts rest (d.front ++ f.front) f.fault found counts d k e f refl refl;
      fewer = λ m p.
          let o = f.further text' m inner (beyond.speaks text) p in
          let j = joined m text text' ts rest (f.front ++ o.token ∷ o.more) found counts d a
          o.has in
          let xs = map external_declaration found ++ o.has.tree ∷ [] in
          subst (λ (z : List Token). ContinuesWithin m text (d.front ++ f.front) z) (sym o.is)
          (record {
            beyond = beyond.words;
            more = o.more;
            program = xs;
            derives = following (λ z. IsProgram text' xs z) (d.front ++ f.front)
                (o.token ∷ []) o.more
                (following (λ z. IsProgram text' xs z) d.front f.front (o.token ∷ o.more) j.0);
            within = j.1;
          });
    }

pub refuses : (e : ParseErr) (text : List ℕ) (ts rest : List Token)
    (found : List ExternalDeclaration') (counts : Counts) → Read text ts found rest counts
    → IsTokens text ts → (rest ≡ [] → ⊥)
    → IsPlacedRefusal e (NoExternalDeclaration counts) (HasExternalDeclaration counts) text rest
    → ParserRefuses e text ts
refuses (Unexpected at) text ts rest found counts d k n p =
    fault 0 at text ts rest found counts d k n p
refuses (TooDeep at) text ts rest found counts d k n p =
    fault 1 at text ts rest found counts d k n p
refuses (TooMany at what) text ts rest found counts d k n p =
    fault (order (Number what)) at text ts rest found counts d k n p
refuses Memory text ts rest found counts d k n p = tt

-- ---- no program within the limits is refused

pub memory : (e : ParseErr) (text : List ℕ) (ts : List Token) (xs : List ExternalDeclaration)
    → ParserRefuses e text ts → IsProgram text xs ts → Within text xs → e ≡ Memory
memory (Unexpected at) text ts xs r h w = absurd (no_fault_in_program text ts 0 at xs r h w)
memory (TooDeep at) text ts xs r h w = absurd (no_fault_in_program text ts 1 at xs r h w)
memory (TooMany at what) text ts xs r h w =
    absurd (no_fault_in_program text ts (order (Number what)) at xs r h w)
memory Memory text ts xs r h w = refl

-- ---- whether something is left

pub some_left : (ts : List Token) (r : Bool) → r ≡ nat_eq (length ts) 0 → r ≡ false → ts ≡ [] → ⊥
some_left [] r h f e = cc
some_left (t ∷ ts) r h f e = cc

pub none_left : (ts : List Token) (r : Bool) → r ≡ nat_eq (length ts) 0 → r ≡ true → ts ≡ []
none_left [] r h f = refl
none_left (t ∷ ts) r h f = let p : length (t ∷ ts) ≡ 0 = eqb-true _ _ (sym h ∙ f) in
    absurd (omega arith)
