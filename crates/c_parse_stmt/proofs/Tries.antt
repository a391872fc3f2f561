-- `__try` statements from their parts: what is read, and that nothing is at the front where a part
-- is missing.
use Rattle.std.proofs.Common.{◌≡◌, ◌≤◌, ◌+◌, ℕ, Bool, true, false, cond, List, [], ◌∷◌, length, length-append, refl, sym, ap, ◌∙◌, subst, arith, inl, inr}
use Rattle.std.specs.Prelude.{◌⊎◌}
use Rattle.c_lex.specs.declared.keyword.Keyword.TheVariants as keywords
use Rattle.c_lex.specs.declared.punctuator.Punctuator.TheVariants as punctuators
use Rattle.c_parse_stmt.specs.Words.{Token, Expression, height, locals, locals_of_all, accepts, funclets_of_all, Statement, TryExcept, TryFinally, Statements, IsCondition, AreBlockItems, IsKeyword, HasPunctuator, HasKeyword, Remaining, numbers_of, NoFilter, AllWithin, AllTaken, NoBlockItems, IsStatementWithin, NoStatement, AfterKeyword, bytes_so_far, end_of_all_arrays}
use Rattle.c_parse_stmt.proofs.Lemmas.{keyword_same, has_same, same_items}
use Rattle.c_syntax.proofs.Declarations.{condition}
use Rattle.c_syntax.proofs.Blocks.{place}
use Rattle.c_parse_stmt.proofs.ArrayEnds.{all_grow}
use Rattle.c_parse_stmt.proofs.Tails.{IsBraced, AfterExcept, AfterFinally, after_try}
use Rattle.c_parse_stmt.proofs.Wholes.{fits}

abbrev pub NoneBraced : ℕ → Remaining → ℕ → List ℕ → List Token → Type 0
NoneBraced room left n text ts = (ss : Statements) (end : List Token) → IsBraced text ss ts end
    → AllWithin n text room left ss → ⊥

after_braces : (text : List ℕ) (ss zs : Statements) (ts rest end : List Token)
    → IsBraced text ss ts rest → IsBraced text zs ts end → (ss ≡ zs) × (rest ≡ end)
after_braces text ss zs ts rest end h g =
    same_items text ss zs h.after_brace g.after_brace rest end
    (has_same punctuators.OpenBrace ts ts h.after_brace g.after_brace refl h.brace g.brace) h.items
    g.items

pub number_length : (b : Bool) (at : ℕ) → length (cond b [] (at ∷ [])) ≡ numbers_of b
number_length true at = refl
number_length false at = refl

pub no_try : (limits : ℕ) (text : List ℕ) (room at : ℕ) (left : Remaining) (a : List Token)
    → 7 ≤ limits
    → room ≡ 0 → left.funclets ≡ 0 → AfterKeyword keywords.Try at a
    (NoStatement room left limits text)
no_try limits text room at left a i n m ts k s end h d c w = by (after_try text at s ts a end k h)
  where
    by : (AfterExcept text s a end ⊎ AfterFinally text s a end) → ⊥
    by (inl t) =
        let v = fits limits text room left s (TryExcept t.body t.at t.filter t.handler) t.same w in
        let o = v.statements (omega arith) in
        absurd (omega arith)
    by (inr t) =
        let v = fits limits text room left s (TryFinally t.body t.at t.last) t.same w in
        let o = v.funclets i in
        absurd (omega (arith, length-append {A = ℕ}))

pub no_try_body : (limits : ℕ) (text : List ℕ) (room at : ℕ) (left : Remaining) (a : List Token)
    → NoneBraced room left limits text a → AfterKeyword keywords.Try at a
    (NoStatement room left limits text)
no_try_body limits text room at left a none ts k s end h d c w = by
    (after_try text at s ts a end k h)
  where
    by : (AfterExcept text s a end ⊎ AfterFinally text s a end) → ⊥
    by (inl t) =
        let v = fits limits text room left s (TryExcept t.body t.at t.filter t.handler) t.same w in
        none t.body t.after_body t.is_body (record {
          statements = λ lim. let o = v.statements lim in omega arith;
          expressions = λ lim. let o = v.expressions lim in omega arith;
          locals = λ lim. let o = v.locals lim in omega arith;
          bytes = λ lim. let o = v.bytes lim in
              let g = all_grow t.handler (end_of_all_arrays t.body (bytes_so_far left.bytes)) in
              omega arith;
          funclets = λ lim. let o = v.funclets lim in omega (arith, length-append {A = ℕ});
        })
    by (inr t) =
        let v = fits limits text room left s (TryFinally t.body t.at t.last) t.same w in
        none t.body t.after_body t.is_body (record {
          statements = λ lim. let o = v.statements lim in omega arith;
          expressions = λ lim. let o = v.expressions lim in omega arith;
          locals = λ lim. let o = v.locals lim in omega arith;
          bytes = λ lim. let o = v.bytes lim in
              let g = all_grow t.last (end_of_all_arrays t.body (bytes_so_far left.bytes)) in
              omega arith;
          funclets = λ lim. let o = v.funclets lim in omega (arith, length-append {A = ℕ});
        })

not_finally : (text : List ℕ) (body : Statements) (p : ℕ) (s : Statement) (a b j end : List Token)
    → IsBraced text body a b → IsKeyword keywords.Except p b j → AfterFinally text s a end → ⊥
not_finally text body p s a b j end is kw t =
    let u = after_braces text body t.body a b t.after_body is t.is_body in
    let e : keywords.Except ≡ keywords.Finally = (keyword_same keywords.Except keywords.Finally b
    t.after_body j t.after_finally u.1 (p, kw) (t.at, t.keyword)).0 in
    cc

not_except : (text : List ℕ) (body : Statements) (p : ℕ) (s : Statement) (a b j end : List Token)
    → IsBraced text body a b → IsKeyword keywords.Finally p b j → AfterExcept text s a end → ⊥
not_except text body p s a b j end is kw t =
    let u = after_braces text body t.body a b t.after_body is t.is_body in
    let e : keywords.Finally ≡ keywords.Except = (keyword_same keywords.Finally keywords.Except b
    t.after_body j t.after_except u.1 (p, kw) (t.at, t.keyword)).0 in
    cc

pub no_except_room : (limits : ℕ) (text : List ℕ) (room at p : ℕ) (left : Remaining)
    (body : Statements)
    (a b j : List Token) → 1 ≤ limits → room ≡ 0 → IsBraced text body a b
    → IsKeyword keywords.Except p b j → AfterKeyword keywords.Try at a
    (NoStatement room left limits text)
no_except_room limits text room at p left body a b j i n is kw ts k s end h d c w = by
    (after_try text at s ts a end k h)
  where
    by : (AfterExcept text s a end ⊎ AfterFinally text s a end) → ⊥
    by (inl t) =
        let v = fits limits text room left s (TryExcept t.body t.at t.filter t.handler) t.same w in
        let o = v.statements (omega arith) in
        absurd (omega arith)
    by (inr t) = not_finally text body p s a b j end is kw t

pub no_filter : (limits : ℕ) (text : List ℕ) (room at p : ℕ) (left mid : Remaining)
    (body : Statements)
    (a b j : List Token) → IsBraced text body a b → AllTaken text room left mid body
    → IsKeyword keywords.Except p b j → NoFilter mid.funclets limits text j
    → AfterKeyword keywords.Try at a (NoStatement room left limits text)
no_filter limits text room at p left mid body a b j is tk kw none ts k s end h d c w = by
    (after_try text at s ts a end k h)
  where
    by : (AfterExcept text s a end ⊎ AfterFinally text s a end) → ⊥
    by (inl t) =
        let v = fits limits text room left s (TryExcept t.body t.at t.filter t.handler) t.same w in
        let u = after_braces text body t.body a b t.after_body is t.is_body in
        let q = place keywords.Except p t.at b t.after_body j t.after_except u.1 kw t.keyword in
        let y = number_length (accepts text t.filter) t.at in
        let z = tk.funclets in
        let e = ap (λ (i : Statements). length (funclets_of_all text i)) u.0 in
        none t.filter t.after_filter (subst (λ (i : List Token). IsCondition text t.filter i
        t.after_filter) (sym q.1) t.is_filter) (λ lim. let o = v.expressions lim in omega arith)
        (λ lim. let o = v.funclets lim in omega (arith, length-append {A = ℕ}))
    by (inr t) = not_finally text body p s a b j end is kw t

pub no_handler : (limits : ℕ) (text : List ℕ) (room at p : ℕ) (left mid next : Remaining)
    (body : Statements) (f : Expression) (a b j g : List Token) → IsBraced text body a b
    → AllTaken text room left mid body → IsKeyword keywords.Except p b j → IsCondition text f j g
    → next.funclets + numbers_of (accepts text f) ≡ mid.funclets → next.locals ≡ mid.locals
    → next.bytes ≡ mid.bytes
    → NoneBraced room next limits text g → AfterKeyword keywords.Try at a
    (NoStatement room left limits text)
no_handler limits text room at p left mid next body f a b j g is tk kw cn nx ny nz none ts k s end h
    d c w =
    by (after_try text at s ts a end k h)
  where
    by : (AfterExcept text s a end ⊎ AfterFinally text s a end) → ⊥
    by (inl t) =
        let v = fits limits text room left s (TryExcept t.body t.at t.filter t.handler) t.same w in
        let u = after_braces text body t.body a b t.after_body is t.is_body in
        let q = place keywords.Except p t.at b t.after_body j t.after_except u.1 kw t.keyword in
        let r = condition text f t.filter j t.after_except g t.after_filter q.1 cn t.is_filter in
        let y = number_length (accepts text t.filter) t.at in
        let z = tk.funclets in let z' = tk.locals in
        let e = ap (λ (i : Statements). length (funclets_of_all text i)) u.0 in
        let e' = ap locals_of_all u.0 in
        let i = ap (λ (i : Expression). numbers_of (accepts text i)) r.0 in
        none t.handler end (subst (λ (i : List Token). IsBraced text t.handler i end)
        (sym r.1) t.is_handler) (record {
          statements = λ lim. let o = v.statements lim in omega arith;
          expressions = λ lim. let o = v.expressions lim in omega arith;
          locals = λ lim. let o = v.locals lim in omega arith;
          bytes = λ lim. subst (λ x. end_of_all_arrays t.handler x ≤ 65536)
              (sym (ap bytes_so_far nz ∙ tk.bytes
              ∙ ap (λ (i : Statements). end_of_all_arrays i (bytes_so_far left.bytes)) u.0))
              (v.bytes lim);
          funclets = λ lim. let o = v.funclets lim in omega (arith, length-append {A = ℕ});
        })
    by (inr t) = not_finally text body p s a b j end is kw t

pub except_found : (text : List ℕ) (room at p : ℕ) (left mid next after : Remaining)
    (body handler : Statements) (f : Expression) (a b j g rest : List Token) → 1 ≤ room
    → IsBraced text body a b → AllTaken text room left mid body → IsKeyword keywords.Except p b j
    → IsCondition text f j g → height f ≤ 64 → next.funclets + numbers_of (accepts text f)
    ≡ mid.funclets → next.locals ≡ mid.locals → next.bytes ≡ mid.bytes
    → IsBraced text handler g rest
    → AllTaken text room next after handler → AfterKeyword keywords.Try at a
    (λ ts. IsStatementWithin text room left after (TryExcept body p f handler) ts rest)
except_found text room at p left mid next after body handler f a b j g rest n is tk kw cn low nx ny
    nz is' tk' ts k =
    let o = tk.statements in let x = tk.expressions in let l = tk.locals in let m = tk.funclets in
    let o' = tk'.statements in let x' = tk'.expressions in let l' = tk'.locals in
    let m' = tk'.funclets in
    let y = number_length (accepts text f) p in
    record {
      is = record {
        after_try = a;
        after_body = b;
        after_except = j;
        after_filter = g;
        try_keyword = (at, k);
        body = is;
        keyword = kw;
        filter = cn;
        handler = is';
      };
      statement = refl;
      closed = λ i. absurd cc;
      taken = record {
        statements = omega arith;
        expressions = omega arith;
        locals = omega arith;
        bytes = tk'.bytes ∙ ap (end_of_all_arrays handler) (ap bytes_so_far nz ∙ tk.bytes);
        funclets = omega (arith, length-append {A = ℕ});
      };
    }

pub unguarded : (limits : ℕ) (text : List ℕ) (room at : ℕ) (left : Remaining) (body : Statements)
    (a b : List Token) → IsBraced text body a b
    → ((rest : List Token) → HasKeyword keywords.Except b rest → ⊥)
    → ((rest : List Token) → HasKeyword keywords.Finally b rest → ⊥)
    → AfterKeyword keywords.Try at a (NoStatement room left limits text)
unguarded limits text room at left body a b is x y ts k s end h d c w = by
    (after_try text at s ts a end k h)
  where
    by : (AfterExcept text s a end ⊎ AfterFinally text s a end) → ⊥
    by (inl t) =
        let u = after_braces text body t.body a b t.after_body is t.is_body in
        x t.after_except (subst (λ (i : List Token). HasKeyword keywords.Except i t.after_except)
        (sym u.1) (t.at, t.keyword))
    by (inr t) =
        let u = after_braces text body t.body a b t.after_body is t.is_body in
        y t.after_finally (subst (λ (i : List Token). HasKeyword keywords.Finally i t.after_finally)
        (sym u.1) (t.at, t.keyword))

pub no_finally_left : (limits : ℕ) (text : List ℕ) (room at p : ℕ) (left mid : Remaining)
    (body : Statements) (a b j : List Token) → IsBraced text body a b
    → AllTaken text room left mid body → IsKeyword keywords.Finally p b j → 7 ≤ limits
    → mid.funclets ≡ 0 → AfterKeyword keywords.Try at a (NoStatement room left limits text)
no_finally_left limits text room at p left mid body a b j is tk kw i n ts k s end h d c w = by
    (after_try text at s ts a end k h)
  where
    by : (AfterExcept text s a end ⊎ AfterFinally text s a end) → ⊥
    by (inl t) = not_except text body p s a b j end is kw t
    by (inr t) =
        let v = fits limits text room left s (TryFinally t.body t.at t.last) t.same w in
        let u = after_braces text body t.body a b t.after_body is t.is_body in
        let e = ap (λ (i : Statements). length (funclets_of_all text i)) u.0 in
        let z = tk.funclets in
        let o = v.funclets i in absurd (omega (arith, length-append {A = ℕ}))

pub no_last : (limits : ℕ) (text : List ℕ) (room at p : ℕ) (left mid next : Remaining)
    (body : Statements) (a b j : List Token) → IsBraced text body a b
    → AllTaken text room left mid body → IsKeyword keywords.Finally p b j
    → next.funclets + 1 ≡ mid.funclets → next.locals ≡ mid.locals → next.bytes ≡ mid.bytes
    → NoneBraced room next limits text j → AfterKeyword keywords.Try at a
    (NoStatement room left limits text)
no_last limits text room at p left mid next body a b j is tk kw nx ny nz none ts k s end h d c w =
    by (after_try text at s ts a end k h)
  where
    by : (AfterExcept text s a end ⊎ AfterFinally text s a end) → ⊥
    by (inl t) = not_except text body p s a b j end is kw t
    by (inr t) =
        let v = fits limits text room left s (TryFinally t.body t.at t.last) t.same w in
        let u = after_braces text body t.body a b t.after_body is t.is_body in
        let q = place keywords.Finally p t.at b t.after_body j t.after_finally u.1 kw t.keyword in
        let z = tk.funclets in let z' = tk.locals in
        let e = ap (λ (i : Statements). length (funclets_of_all text i)) u.0 in
        let e' = ap locals_of_all u.0 in
        none t.last end (subst (λ (i : List Token). IsBraced text t.last i end) (sym q.1) t.is_last)
        (record {
          statements = λ lim. let o = v.statements lim in omega arith;
          expressions = λ lim. let o = v.expressions lim in omega arith;
          locals = λ lim. let o = v.locals lim in omega arith;
          bytes = λ lim. subst (λ x. end_of_all_arrays t.last x ≤ 65536)
              (sym (ap bytes_so_far nz ∙ tk.bytes
              ∙ ap (λ (i : Statements). end_of_all_arrays i (bytes_so_far left.bytes)) u.0))
              (v.bytes lim);
          funclets = λ lim. let o = v.funclets lim in omega (arith, length-append {A = ℕ});
        })

pub finally_found : (text : List ℕ) (room at p : ℕ) (left mid next after : Remaining)
    (body last : Statements) (a b j rest : List Token) → IsBraced text body a b
    → AllTaken text room left mid body → IsKeyword keywords.Finally p b j
    → next.funclets + 1 ≡ mid.funclets → next.locals ≡ mid.locals → next.bytes ≡ mid.bytes
    → IsBraced text last j rest
    → AllTaken text room next after last → AfterKeyword keywords.Try at a
    (λ ts. IsStatementWithin text room left after (TryFinally body p last) ts rest)
finally_found text room at p left mid next after body last a b j rest is tk kw nx ny nz is' tk' ts
    k =
    let o = tk.statements in let x = tk.expressions in let l = tk.locals in let m = tk.funclets in
    let o' = tk'.statements in let x' = tk'.expressions in let l' = tk'.locals in
    let m' = tk'.funclets in
    record {
      is = record {
        after_try = a;
        after_body = b;
        after_finally = j;
        try_keyword = (at, k);
        body = is;
        keyword = kw;
        last = is';
      };
      statement = refl;
      closed = λ i. absurd cc;
      taken = record {
        statements = omega arith;
        expressions = omega arith;
        locals = omega arith;
        bytes = tk'.bytes ∙ ap (end_of_all_arrays last) (ap bytes_so_far nz ∙ tk.bytes);
        funclets = omega (arith, length-append {A = ℕ});
      };
    }

pub no_braced : (limits : ℕ) (text : List ℕ) (room : ℕ) (left : Remaining) (ts a : List Token)
    → HasPunctuator punctuators.OpenBrace ts a → NoBlockItems room left limits text a
    → NoneBraced room left limits text ts
no_braced limits text room left ts a o none ss end h w =
    none ss end (subst (λ (y : List Token). AreBlockItems text ss y end)
    (has_same punctuators.OpenBrace ts ts h.after_brace a refl h.brace o) h.items) w
