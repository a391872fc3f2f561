-- External declarations are read by their heads.
use Rattle.std.proofs.Common.{◌≡◌, ◌≤◌, ◌⊎◌, ℕ, List, [], ◌∷◌, ◌++◌, length-append}
use Rattle.std.proofs.Common.{refl, sym, ap, ◌∙◌, subst, arith, inl, inr, Some, None}
use Rattle.c_lex.specs.declared.punctuator.Punctuator.TheVariants as punctuators
use Rattle.c_lex.specs.declared.token.Kind.TheVariants as kinds
use Rattle.c_parse.specs.Words.{Token, Parameter, Base, CType, Identifier, SameFirst, place, Failed, Wraps, end_of_globals, funclets_of_all, Global, Globals, Function, AreGlobals, AreParameters, IsExternalDeclaration, Statements, Empty, token, HasPunctuator, IsBase, Counts, NoExternalDeclaration, HasExternalDeclaration, NoGlobals, HasGlobals, IsTail, NoTail, HasTail, IsDeclarationHead}
use Rattle.c_parse.proofs.Lemmas.{append_append, alike_inner, first_after, has_same, name_same, base_once, stars_once, name_star, globals_type, apart}
use Rattle.c_syntax.proofs.Firsts as firsts
use Rattle.c_parse.proofs.Refusing.{punctuator, has_it, following, Lacks}
use Rattle.c_parse.proofs.Placing.{no_elements}
use Rattle.c_parse.proofs.Declarators.{array, is_array}
use Rattle.c_parse.proofs.Bodies.{empty}
use Rattle.c_parse.proofs.HeadsOfDeclarations.{declarators_type, Headed, headed, is_head, whole_split, has_head, array_after}

-- ---- functions

abbrev pub typed : Base → ℕ → CType
typed b n = record { base = b; pointers = n }

-- no globals are where a parenthesis is after the head
not_globals : (text : List ℕ) (b base : Base) (n : ℕ) (called : Identifier) (gs : List Global)
    (ts d rest inner end : List Token) → IsDeclarationHead base n called ts d rest
    → HasPunctuator punctuators.OpenParenthesis rest inner
    → IsExternalDeclaration text (Globals b gs) ts end → ⊥
not_globals text b base n called gs ts d rest inner end h o g =
    apart b gs (typed base n) called ts ts h.after_stars rest inner end refl g
    (d, h.base, h.stars) h.name o

-- a function has one head
head_once : (base other : Base) (n m : ℕ) (called again : Identifier) (ts d e rest end : List Token)
    → IsDeclarationHead base n called ts d rest → IsDeclarationHead other m again ts e end
    → rest ≡ end
head_once base other n m called again ts d e rest end h g =
    let b = base_once base other ts ts d e refl
    (declarators_type n called d h.after_stars rest h.stars h.name)
    (declarators_type m again e g.after_stars end g.stars g.name) h.base g.base in
    let s = stars_once n m d e h.after_stars g.after_stars b.1
    (name_star called h.after_stars rest h.name)
    (name_star again g.after_stars end g.name) h.stars g.stars in
    (name_same called again h.after_stars g.after_stars rest end s.1 h.name g.name).1

pub function : (text : List ℕ) (base : Base) (n : ℕ) (called : Identifier) (ps : List Parameter)
    (body : Statements) (ts d rest inner end : List Token)
    → IsDeclarationHead base n called ts d rest
    → HasPunctuator punctuators.OpenParenthesis rest inner → IsTail text ps body inner end
    → IsExternalDeclaration text (Function (typed base n) called ps body) ts end
function text base n called ps body ts d rest inner end h o t = record {
  after_type = h.after_stars;
  after_name = rest;
  after_parenthesis = inner;
  after_parameters = t.after_parameters;
  returns = (d, h.base, h.stars);
  name = h.name;
  parenthesis = o;
  parameters = t.parameters;
  body = t.body;
}

full : (counts : Counts) (k : ℕ) (text : List ℕ) (base : Base) (n : ℕ) (called : Identifier)
    (ts d rest inner : List Token) → 5 ≤ k → IsDeclarationHead base n called ts d rest
    → HasPunctuator punctuators.OpenParenthesis rest inner → counts.functions ≡ 0
    → NoExternalDeclaration counts k text ts
full counts k text base n called ts d rest inner five h o z (Globals b gs) end g w =
    not_globals text b base n called gs ts d rest inner end h o g
full counts k text base n called ts d rest inner five h o z (Function t again ps body) end g w =
    let a = w.functions five in absurd (omega arith)

abbrev nothing : List Token
nothing = punctuator punctuators.CloseParenthesis ∷ punctuator punctuators.OpenBrace ∷ punctuator
    punctuators.CloseBrace ∷ []

pub functions_full : (text : List ℕ) (counts : Counts) (base : Base) (n : ℕ) (called : Identifier)
    (ts d rest inner : List Token) → counts.bytes ≤ 1048576
    → IsDeclarationHead base n called ts d rest
    → HasPunctuator punctuators.OpenParenthesis rest inner → counts.functions ≡ 0
    → Failed 5 (place text rest) (NoExternalDeclaration counts) (HasExternalDeclaration counts) text
    ts
functions_full text counts base n called ts d rest inner w h o z =
    let (opening_at, (opening_end, opening_split)) = o in
    let m = headed text base n called ts d rest h in
    let t = token (kinds.Punctuator punctuators.OpenParenthesis) opening_at opening_end in record {
      front = m.front ++ m.declared;
      fault = rest;
      split = whole_split base n called ts d rest m;
      located = refl;
      against = λ text' other a s.
          let f = subst (λ (x : List Token). SameFirst x other) opening_split s in
          following (λ x. NoExternalDeclaration counts 5 text' x) m.front m.declared other
          (full counts 5 text' base n called (m.front ++ (m.declared ++ other))
          (m.declared ++ other) other f.0 (omega arith)
          (is_head base n called ts d rest m other) (opening_at, (opening_end, f.1)) z);
      able = λ text' a s. record {
        more = array;
        has = array_after counts 7 text' (m.front ++ m.declared) w
            (has_head 7 text' base n called ts d rest m);
      };
      further = λ text' k a s e. record {
        token = t;
        rest = inner;
        more = nothing;
        is = opening_split;
        has = record {
          tree = Function (typed base n) called [] Empty;
          is = λ other.
              let u = t ∷ (nothing ++ other) in
              following (λ x. IsExternalDeclaration text' (Function (typed base n) called [] Empty)
              x other) (m.front ++ m.declared) (t ∷ nothing) other
              (following (λ x. IsExternalDeclaration text' (Function (typed base n) called [] Empty)
              x other) m.front m.declared u
              (function text' base n called [] Empty (m.front ++ (m.declared ++ u))
              (m.declared ++ u) u (nothing ++ other) other (is_head base n called ts d rest m u)
              (opening_at, (opening_end, refl))
              (record {
                after_parameters =
                    punctuator punctuators.OpenBrace ∷ punctuator punctuators.CloseBrace ∷ other;
                parameters =
                    inl (has_it punctuators.CloseParenthesis
                    (punctuator punctuators.OpenBrace ∷ punctuator punctuators.CloseBrace ∷ other));
                body = record {
                  after_brace = punctuator punctuators.CloseBrace ∷ other;
                  brace = has_it punctuators.OpenBrace (punctuator punctuators.CloseBrace ∷ other);
                  items = has_it punctuators.CloseBrace other;
                };
              })));
          fits = record {
            each = (empty k [] (λ four. omega arith), tt);
            functions = λ five. absurd (omega arith);
            bytes = λ six. w;
            funclets =
                λ seven. omega arith;
          };
        };
      };
    }

no_tail : (counts : Counts) (k : ℕ) (text : List ℕ) (base : Base) (n : ℕ) (called : Identifier)
    (ts d rest inner : List Token) → IsDeclarationHead base n called ts d rest
    → HasPunctuator punctuators.OpenParenthesis rest inner → NoTail counts.funclets k text inner
    → NoExternalDeclaration counts k text ts
no_tail counts k text base n called ts d rest inner h o none (Globals b gs) end g w =
    not_globals text b base n called gs ts d rest inner end h o g
no_tail counts k text base n called ts d rest inner h o none (Function t again ps body) end g w =
    let r = head_once base t.base n t.pointers called again ts d g.returns.0 rest g.after_name h
    (record {
      after_stars = g.after_type;
      base = g.returns.1;
      stars = g.returns.2;
      name = g.name;
    }) in
    let i = has_same punctuators.OpenParenthesis rest g.after_name inner g.after_parenthesis r o
    g.parenthesis in
    let b = length-append (funclets_of_all text body) [] in
    none ps body end
    (record {
      after_parameters = g.after_parameters;
      parameters =
          subst (λ (x : List Token). AreParameters ps x g.after_parameters) (sym i) g.parameters;
      body = g.body;
    }) w.each.0 (λ seven. let a = w.funclets seven in omega arith)

pub in_tail : (text : List ℕ) (counts : Counts) (base : Base) (n : ℕ) (called : Identifier)
    (ts d rest inner : List Token) → counts.bytes ≤ 1048576
    → IsDeclarationHead base n called ts d rest
    → HasPunctuator punctuators.OpenParenthesis rest inner → (counts.functions ≡ 0 → ⊥)
    → Wraps (NoTail counts.funclets) (HasTail counts.funclets) (NoExternalDeclaration counts)
    (HasExternalDeclaration counts) text inner ts
in_tail text counts base n called ts d rest inner w h o z =
    let (opening_at, (opening_end, opening_split)) = o in
    let m = headed text base n called ts d rest h in
    let t = token (kinds.Punctuator punctuators.OpenParenthesis) opening_at opening_end in record {
      before = (m.front ++ m.declared) ++ t ∷ [];
      split = whole_split base n called ts d rest m
          ∙ ap (λ (x : List Token). (m.front ++ m.declared) ++ x) opening_split
          ∙ sym (append_append (m.front ++ m.declared) (t ∷ []) inner);
      no = λ k text' other a s x.
          following (λ y. NoExternalDeclaration counts k text' y) (m.front ++ m.declared)
          (t ∷ []) other
          (following (λ y. NoExternalDeclaration counts k text' y) m.front m.declared (t ∷ other)
          (no_tail counts k text' base n called (m.front ++ (m.declared ++ t ∷ other))
          (m.declared ++ t ∷ other) (t ∷ other) other
          (is_head base n called ts d rest m (t ∷ other)) (opening_at, (opening_end, refl)) x));
      has = λ k text' more a s g.
          let x = Function (typed base n) called g.parameters g.body in
          let e = length-append (funclets_of_all text' g.body) [] in record {
            more = [];
            has = record {
              tree = x;
              is = λ other.
                  let u = t ∷ (more ++ other) in
                  following (λ y. IsExternalDeclaration text' x y other)
                  ((m.front ++ m.declared) ++ t ∷ [] ++ more) [] other
                  (following (λ y. IsExternalDeclaration text' x y other)
                  ((m.front ++ m.declared) ++ t ∷ []) more other
                  (following (λ y. IsExternalDeclaration text' x y other) (m.front ++ m.declared)
                  (t ∷ []) (more ++ other)
                  (following (λ y. IsExternalDeclaration text' x y other) m.front m.declared u
                  (function text' base n called g.parameters g.body (m.front ++ (m.declared ++ u))
                  (m.declared ++ u) u (more ++ other) other
                  (is_head base n called ts d rest m u) (opening_at, (opening_end, refl))
                  (g.is other)))));
              fits = record {
                each = (g.within, tt);
                functions = λ five. grind arith;
                bytes = λ six. w;
                funclets = λ seven. let b = g.numbered seven in omega arith;
              };
            };
          };
    }

-- ---- globals

no_globals : (counts : Counts) (k : ℕ) (text : List ℕ) (base : Base) (n : ℕ) (called : Identifier)
    (ts d rest : List Token) → IsDeclarationHead base n called ts d rest
    → Lacks punctuators.OpenParenthesis rest → NoGlobals base counts.bytes k text d
    → NoExternalDeclaration counts k text ts
no_globals counts k text base n called ts d rest h l none (Globals b gs) end g w =
    let q = base_once base b ts ts d g.0 refl
    (declarators_type n called d h.after_stars rest h.stars h.name)
    (globals_type gs g.0 end g.2) h.base g.1 in
    none gs end (subst (λ (x : List Token). AreGlobals gs x end) (sym q.1) g.2)
    (λ six. subst (λ (x : Base). end_of_globals x gs counts.bytes ≤ 1048576) (sym q.0)
    (w.bytes six))
no_globals counts k text base n called ts d rest h l none (Function t again ps body) end g w =
    let r = head_once base t.base n t.pointers called again ts d g.returns.0 rest g.after_name h
    (record {
      after_stars = g.after_type;
      base = g.returns.1;
      stars = g.returns.2;
      name = g.name;
    }) in
    l g.after_parenthesis (subst (λ (x : List Token). HasPunctuator punctuators.OpenParenthesis x
    g.after_parenthesis) (sym r) g.parenthesis)

-- of two ways to cut a list one goes further
abbrev Cuts : List Token → List Token → List Token → List Token → Type 0
Cuts xs ys us vs = ((g : List Token) × (us ≡ xs ++ g) × (ys ≡ g ++ vs))
    ⊎ ((t : Token) × (g : List Token) × (xs ≡ us ++ t ∷ g) × (vs ≡ t ∷ (g ++ ys)))

further : (x : Token) (xs ys us vs : List Token) → Cuts xs ys us vs → Cuts (x ∷ xs) ys (x ∷ us) vs
further x xs ys us vs (inl (g, p, q)) = inl (g, ap (λ (z : List Token). x ∷ z) p, q)
further x xs ys us vs (inr (t, g, p, q)) = inr (t, g, ap (λ (z : List Token). x ∷ z) p, q)

cut : (xs ys us vs : List Token) → xs ++ ys ≡ us ++ vs → Cuts xs ys us vs
cut [] ys us vs p = inl (us, refl, p)
cut (x ∷ xs) ys [] vs p = inr (x, xs, refl, sym p)
cut (x ∷ xs) ys (u ∷ us) vs p =
    let e : x ≡ u = cc in
    let q : xs ++ ys ≡ us ++ vs = cc in
    subst (λ (z : Token). Cuts (x ∷ xs) ys (z ∷ us) vs) e
    (further x xs ys us vs (cut xs ys us vs q))

against : (counts : Counts) (k : ℕ) (text : List ℕ) (base : Base) (n : ℕ) (called : Identifier)
    (ts d rest front fault other : List Token) (m : Headed base n called ts d rest)
    → counts.bytes ≤ 1048576 → Lacks punctuators.OpenParenthesis rest → SameFirst fault other
    → ((o : List Token) → SameFirst fault o → NoGlobals base counts.bytes k text (front ++ o))
    → Cuts m.declared rest front fault
    → NoExternalDeclaration counts k text (m.front ++ (front ++ other))
against counts k text base n called ts d rest front fault other m w l s f (inl (g, p, q)) =
    let e : front ++ other ≡ m.declared ++ (g ++ other) = ap (λ (z : List Token). z ++ other) p
    ∙ append_append m.declared g other in
    let lacks = firsts.no_punctuator punctuators.OpenParenthesis rest (g ++ other)
    (subst (λ (z : List Token). SameFirst z (g ++ other)) (sym q) (first_after g fault other s))
    l in
    subst (λ (z : List Token). NoExternalDeclaration counts k text (m.front ++ z)) (sym e)
    (no_globals counts k text base n called (m.front ++ (m.declared ++ (g ++ other)))
    (m.declared ++ (g ++ other)) (g ++ other) (is_head base n called ts d rest m (g ++ other))
    lacks (subst (λ (z : List Token). NoGlobals base counts.bytes k text z) e (f other s)))
against counts k text base n called ts d rest front fault other m w l s f (inr (t, g, p, q)) =
    let o = t ∷ (g ++ array) in
    let e : m.declared ++ array ≡ front ++ o = ap (λ (z : List Token). z ++ array) p
    ∙ append_append front (t ∷ g) array in
    let x : Global = record {
      pointers = n;
      name = called;
      length = Some (record { at = 0; value = 0 });
      initialiser = None;
    } in
    let h = m.declares array in
    let rest' = punctuator punctuators.Semicolon ∷ [] in
    let are : AreGlobals (x ∷ []) (m.declared ++ array) [] = (
      rest',
      record {
        after_stars = h.0;
        after_name = array;
        after_length = rest';
        stars = h.1;
        name = h.2;
        length = is_array [];
        initialiser = refl;
      },
      has_it punctuators.Semicolon [],
    ) in
    absurd (f o (subst (λ (z : List Token). SameFirst z o) (sym q) (g ++ array, refl)) (x ∷ []) []
    (subst (λ (z : List Token). AreGlobals (x ∷ []) z []) e are)
    (λ six. no_elements base n counts.bytes w))

globals_has : (counts : Counts) (k : ℕ) (text : List ℕ) (base : Base) (front inner : List Token)
    → ((other : List Token) → IsBase base (front ++ other) other)
    → HasGlobals base counts.bytes k text inner
    → HasExternalDeclaration counts k text (front ++ inner)
globals_has counts k text base front inner b h = record {
  tree = Globals base h.trees;
  is = λ other. following (λ z. IsExternalDeclaration text (Globals base h.trees) z other) front
      inner other (inner ++ other, b (inner ++ other), h.are other);
  fits = record {
    each = tt;
    functions = λ five. omega arith;
    bytes = h.low;
    funclets = λ seven. omega arith;
  };
}

-- What fails as globals fails as an external declaration: it fails after the head, which no
-- parenthesis follows.
pub as_globals : (text : List ℕ) (counts : Counts) (base : Base) (n : ℕ) (called : Identifier)
    (ts d rest : List Token) → counts.bytes ≤ 1048576 → IsDeclarationHead base n called ts d rest
    → Lacks punctuators.OpenParenthesis rest
    → (kind at : ℕ) → Failed kind at (NoGlobals base counts.bytes) (HasGlobals base counts.bytes)
    text d → Failed kind at (NoExternalDeclaration counts) (HasExternalDeclaration counts) text
    ts
as_globals text counts base n called ts d rest w h l kind at f =
    let m = headed text base n called ts d rest h in record {
      front = m.front ++ f.front;
      fault = f.fault;
      split = m.split ∙ ap (λ (x : List Token). m.front ++ x) f.split
          ∙ sym (append_append m.front f.front f.fault);
      located = f.located;
      against = λ text' other a s.
          following (λ z. NoExternalDeclaration counts kind text' z) m.front f.front other
          (against counts kind text' base n called ts d rest f.front f.fault other m w l s
          (λ o q. f.against text' o (alike_inner text text' m.front d ts m.split a) q)
          (cut m.declared rest f.front f.fault (sym m.split_declared ∙ f.split)));
      able = λ text' a k.
          let o = f.able text' (alike_inner text text' m.front d ts m.split a) k in
          record {
            more = o.more;
            has = subst (λ (z : List Token). HasExternalDeclaration counts 7 text' z)
                (sym (append_append m.front f.front o.more))
                (globals_has counts 7 text' base m.front (f.front ++ o.more) m.again o.has);
          };
      further = λ text' k a s e.
          let o = f.further text' k (alike_inner text text' m.front d ts m.split a) s e in
          record {
            token = o.token;
            rest = o.rest;
            more = o.more;
            is = o.is;
            has = subst (λ (z : List Token). HasExternalDeclaration counts k text' z)
                (sym (append_append m.front f.front (o.token ∷ o.more)))
                (globals_has counts k text' base m.front (f.front ++ o.token ∷ o.more) m.again
                o.has);
          };
    }
