-- The statements of a block, one after another.
use Rattle.std.proofs.Common.{◌≡◌, ℕ, ◌+◌, ◌<◌, ◌≤◌, append-nil, List, [], ◌∷◌, ◌++◌, map, length, drop, get_or, sym, ap, subst, ◌∙◌, append_assoc}
use Rattle.std.proofs.lemmas.List.{drop_all, map-append}
use Rattle.c_checked.proofs.Items.{next_of}
use Rattle.c_checked.specs.declared.statement.Stmt.{Stmt as Checked}
use Rattle.c_checked.specs.Statement as checked
use Rattle.c_locals.specs.declared.environment.Environment.{Environment as Environment'}
use Rattle.c_statements.proofs.Lemmas.{kept_append}
use Rattle.c_statements.specs.Words.{SymbolTable, with_block, environment, least_of, kept, FunctionState, Resolves, numbering, Scope, Environment, Numbering, ResolvedStatements, resolve_statement, resolve_statements, statement, statements}
use Rattle.c_syntax.specs.declared.statement.Stmt.{Stmt}

abbrev pub resolved_from : Environment → List Stmt → Scope → Numbering → ResolvedStatements
resolved_from a list b n = resolve_statements (statements (map statement list)) a b n

-- what was made of a part of a list, with what is left, is what the whole is resolved to
pub record Going (a : Environment) (left : List Stmt) (b : Scope) (start state : FunctionState)
    (made : List Checked) (whole : ResolvedStatements) : Type 0 where
  pub done : map checked.statement made ++ (resolved_from a left b (numbering state)).done
      ≡ whole.done
  pub counts : (resolved_from a left b (numbering state)).counts ≡ whole.counts
  pub block : (resolved_from a left b (numbering state)).block ≡ whole.block
  pub faults : kept (least_of state.faults) (resolved_from a left b (numbering state)).faults
      ≡ kept (least_of start.faults) whole.faults

step : (a : Environment) (s : Stmt) (left : List Stmt) (t t' : SymbolTable)
    (start w w' : FunctionState)
    (made more : List Checked) (whole : ResolvedStatements)
    → Resolves t t' w w' (map checked.statement more)
    (resolve_statement (statement s) a t.block (numbering w))
    → Going a (s ∷ left) t.block start w made whole
    → Going a left t'.block start w' (made ++ more) whole
step a s left t t' start w w' made more whole m g =
    let r = resolve_statement (statement s) a t.block (numbering w) in
    let here = resolved_from a left t'.block (numbering w') in
    let there = resolved_from a left r.block r.counts in
    let same : here ≡ there = ap (λ (k : SymbolTable). resolved_from a left k.block (numbering w'))
    m.names ∙ ap (resolved_from a left r.block) m.counts in
    record {
      done =
          ap (λ k. map checked.statement (made ++ more) ++ k.done) same
          ∙ ap (λ k. k ++ there.done) (map-append checked.statement made more)
          ∙ append_assoc (map checked.statement made) (map checked.statement more) there.done
          ∙ ap (λ k. map checked.statement made ++ (k ++ there.done)) m.done
          ∙ g.done;
      counts = ap (λ k. k.counts) same ∙ g.counts;
      block = ap (λ k. k.block) same ∙ g.block;
      faults =
          ap (λ k. kept (least_of w'.faults) k.faults) same
          ∙ ap (λ k. kept k there.faults) m.faults
          ∙ sym (kept_append (least_of w.faults) r.faults there.faults)
          ∙ g.faults;
    }

pub goes : (e : Environment') (list : List Stmt) (i : ℕ) (s : Stmt) (first t t' : SymbolTable)
    (start w w' : FunctionState) (made made' more : List Checked) (whole : ResolvedStatements)
    → i < length list → s ≡ get_or list i s → made' ≡ made ++ more
    → Resolves t t' w w' (map checked.statement more)
    (resolve_statement (statement s) (environment e t.around) t.block (numbering w))
    → t ≡ with_block first t.block
    → Going (environment e first.around) (drop i list) t.block start w made whole
    → (t' ≡ with_block first t'.block)
    × Going (environment e first.around) (drop (i + 1) list) t'.block start w' made' whole
goes e list i s first t t' start w w' made made' more whole lt is more_made m0 same g =
    let a = environment e first.around in
    let r = resolve_statement (statement s) a t.block (numbering w) in
    let m : Resolves t t' w w' (map checked.statement more) r = subst
    (λ (k : SymbolTable). Resolves t t' w w' (map checked.statement more)
    (resolve_statement (statement s) (environment e k.around) t.block (numbering w))) same m0 in (
      m.names ∙ ap (λ (k : SymbolTable). with_block k r.block) same
          ∙ ap (with_block first) (sym (ap (λ (k : SymbolTable). k.block) m.names)),
      subst (λ k. Going a (drop (i + 1) list) t'.block start w' k whole) (sym more_made)
          (step a s (drop (i + 1) list) t t' start w w' made more whole m
          (subst (λ k. Going a k t.block start w made whole) (next_of list i s lt is) g)),
    )

pub gone : (a : Environment) (list : List Stmt) (i : ℕ) (first t : SymbolTable)
    (start w : FunctionState)
    (made : List Checked) (whole : ResolvedStatements)
    → length list ≤ i → t ≡ with_block first t.block
    → Going a (drop i list) t.block start w made whole
    → Resolves first t start w (map checked.statement made) whole
gone a list i first t start w made whole past same g0 =
    let g : Going a [] t.block start w made whole = subst
    (λ k. Going a k t.block start w made whole) (drop_all i list past) g0 in
    record {
      done = sym (append-nil (map checked.statement made)) ∙ g.done;
      counts = g.counts;
      names = same ∙ ap (with_block first) g.block;
      faults = g.faults;
    }
