-- Functions are read as far as they go after their names.
use Rattle.std.proofs.Common.{◌≡◌, ◌≤◌, ℕ, List, [], ◌∷◌, ◌++◌, length, refl, sym, ap, ◌∙◌, subst}
use Rattle.std.proofs.Common.{arith}
use Rattle.c_syntax.specs.declared.limit.TheConstants.{MOST_LOCALS, MOST_ARRAY_BYTES}
use Rattle.c_lex.specs.declared.punctuator.Punctuator.TheVariants as punctuators
use Rattle.c_lex.specs.declared.token.Kind.TheVariants as kinds
use Rattle.c_parse.specs.Words.{Token, Parameter, Wraps, FunctionWithinFirst, end_of_all_arrays, bytes_so_far, AreParameters, Empty, token, HasPunctuator, Remaining, NoPunctuator, APunctuator, NoBlockItems, HasBlockItems, NoParameters, HasParameters, IsTail, NoTail, HasTail}
use Rattle.c_syntax.specs.Statements.{AreBlockItems}
use Rattle.c_parse.proofs.Lemmas.{append_append, alike_same, has_same, parameters}
use Rattle.c_syntax.proofs.MovesPrograms as programs
use Rattle.c_parse.proofs.Refusing.{punctuator, has_it, following}

abbrev braces : List Token
braces = punctuator punctuators.OpenBrace ∷ punctuator punctuators.CloseBrace ∷ []

pub empty : (n : ℕ) (ps : List Parameter) → (4 ≤ n → length ps ≤ 8) → FunctionWithinFirst n ps Empty
empty n ps few = record {
  statements = λ one. omega arith;
  expressions = λ one. omega arith;
  locals = λ two. omega arith;
  arrays = λ three. omega arith;
  parameters = few;
}

pub in_parameters : (text : List ℕ) (funclets : ℕ) (ts : List Token)
    → Wraps NoParameters HasParameters (NoTail funclets) (HasTail funclets) text ts ts
in_parameters text funclets ts = record {
  before = [];
  split = refl;
  no = λ n text' other a s x ps body end h w k. x ps h.after_parameters h.parameters w.parameters;
  has = λ n text' inner a s h. record {
    more = braces;
    has = record {
      parameters = h.trees;
      body = Empty;
      is = λ other. following (λ z. IsTail text' h.trees Empty z other) inner braces other (record {
        after_parameters = braces ++ other;
        parameters = h.are (braces ++ other);
        body = record {
          after_brace = punctuator punctuators.CloseBrace ∷ other;
          brace = has_it punctuators.OpenBrace (punctuator punctuators.CloseBrace ∷ other);
          items = has_it punctuators.CloseBrace other;
        };
      });
      within = empty n h.trees h.few;
      numbered = λ seven. omega arith;
    };
  };
}

pub in_brace : (text : List ℕ) (funclets : ℕ) (ts b : List Token) (found : List Parameter)
    → AreParameters found ts b → length found ≤ 8
    → Wraps (NoPunctuator punctuators.OpenBrace) (APunctuator punctuators.OpenBrace)
    (NoTail funclets) (HasTail funclets) text b ts
in_brace text funclets ts b found is few =
    let m = programs.parameters found text ts b is in
    let again : (other : List Token) → AreParameters found (m.front ++ other) other =
    λ other. m.again text other (alike_same text ts) in record {
      before = m.front;
      split = m.split;
      no = λ n text' other a s x ps body end h w k.
          let q = parameters found ps (m.front ++ other)
          (m.front ++ other) other h.after_parameters refl (again other) h.parameters in
          x h.body.after_brace (subst (λ (z : List Token). HasPunctuator punctuators.OpenBrace z
          h.body.after_brace) (sym q.1) h.body.brace);
      has = λ n text' inner a s h. record {
        more = punctuator punctuators.CloseBrace ∷ [];
        has = record {
          parameters = found;
          body = Empty;
          is = λ other.
              let rest = punctuator punctuators.CloseBrace ∷ other in
              following (λ z. IsTail text' found Empty z other) (m.front ++ inner)
              (punctuator punctuators.CloseBrace ∷ []) other
              (following (λ z. IsTail text' found Empty z other) m.front inner rest (record {
                after_parameters = inner ++ rest;
                parameters = again (inner ++ rest);
                body = record {
                  after_brace = rest;
                  brace = h rest;
                  items = has_it punctuators.CloseBrace other;
                };
              }));
          within = empty n found (λ four. few);
          numbered = λ seven. omega arith;
        };
      };
    }

pub in_body : (text : List ℕ) (left : Remaining) (ts b c : List Token) (found : List Parameter)
    → left.locals ≡ MOST_LOCALS → left.bytes ≡ MOST_ARRAY_BYTES → AreParameters found ts b
    → length found ≤ 8 → HasPunctuator punctuators.OpenBrace b c
    → Wraps (NoBlockItems 65 left) (HasBlockItems 65 left) (NoTail left.funclets)
    (HasTail left.funclets) text c ts
in_body text left ts b c found l z is few o =
    let none : bytes_so_far left.bytes ≡ 0 = omega arith in
    let (opening_at, (opening_end, opening_split)) = o in
    let m = programs.parameters found text ts b is in
    let again : (other : List Token) → AreParameters found (m.front ++ other) other =
    λ other. m.again text other (alike_same text ts) in
    let t = token (kinds.Punctuator punctuators.OpenBrace) opening_at opening_end in record {
      before = m.front ++ t ∷ [];
      split = m.split ∙ ap (λ (x : List Token). m.front ++ x) opening_split
          ∙ sym (append_append m.front (t ∷ []) c);
      no = λ n text' other a s x. following (λ z. NoTail left.funclets n text' z) m.front
          (t ∷ []) other (λ ps body end h w k.
          let q = parameters found ps (m.front ++ t ∷ other) (m.front ++ t ∷ other)
          (t ∷ other) h.after_parameters refl (again (t ∷ other)) h.parameters in
          let r = has_same punctuators.OpenBrace
          (t ∷ other) h.after_parameters other h.body.after_brace q.1
          (opening_at, (opening_end, refl)) h.body.brace in
          x body end (subst (λ (z : List Token). AreBlockItems text' body z end)
          (sym r) h.body.items) (record {
            statements = w.statements;
            expressions = w.expressions;
            locals = λ two. let a = w.locals two in omega arith;
            bytes = λ three. subst (λ (z : ℕ). end_of_all_arrays body z ≤ 65536) (sym none)
                (w.arrays three);
            funclets = k;
          }));
      has = λ n text' inner a s h.
          let v = h.within in record {
            more = [];
            has = record {
              parameters = found;
              body = h.trees;
              is = λ other.
                  following (λ z. IsTail text' found h.trees z other) ((m.front ++ t ∷ []) ++ inner)
                  [] other
                  (following (λ z. IsTail text' found h.trees z other) (m.front ++ t ∷ []) inner
                  other
                  (following (λ z. IsTail text' found h.trees z other) m.front (t ∷ [])
                  (inner ++ other) (record {
                    after_parameters = t ∷ (inner ++ other);
                    parameters = again (t ∷ (inner ++ other));
                    body = record {
                      after_brace = inner ++ other;
                      brace = (opening_at, (opening_end, refl));
                      items = h.are other;
                    };
                  })));
              within = record {
                statements = v.statements;
                expressions = v.expressions;
                locals = λ two. let a = v.locals two in omega arith;
                arrays = λ three. subst (λ (z : ℕ). end_of_all_arrays h.trees z ≤ 65536) none
                    (v.bytes three);
                parameters = λ four. few;
              };
              numbered = v.funclets;
            };
          };
    }
