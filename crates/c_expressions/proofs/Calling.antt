-- Arguments of a call, one after another.
use Rattle.std.proofs.lemmas.List.{drop_all}
use Rattle.std.proofs.Common.{◌≡◌, ℕ, Bool, suc, ◌+◌, ◌<◌, ◌≤◌, true, false, nat_eq, List, [], ◌∷◌, ◌++◌, map, length, drop, get_or, subst, Option, Some, None, refl, sym, ap, ◌∙◌}
use Rattle.std.specs.Prelude.{option_map}
use Rattle.c_checked.proofs.Items.{next_of}
use Rattle.c_checked.specs.Expression as nodes
use Rattle.c_expressions.proofs.Kept.{kept_append}
use Rattle.c_expressions.specs.Words.{resolved_all, put_before, put_after, kept, allowed_call, wanted, Fault, ArgCount, FaultAt, Names, Passed, Wanted, Argument, ResolvedExpression, bad, given_that, only_where, fault_at, faults_of, called, call_with, pass, pass_all, resolve_expression, TypedNode, typed, expression, start}
use Rattle.c_expressions.specs.declared.wanted.Wanted.{Wanted as Wanted'}
use Rattle.c_syntax.specs.declared.expression.CType.{CType}
use Rattle.c_syntax.specs.declared.expression.Expr.{Expr}

pub map_long : {A B : Type 0} (f : A → B) (xs : List A) → length (map f xs) ≡ length xs
map_long f [] = refl
map_long f (x ∷ xs) = ap suc (map_long f xs)

pub all_long : (s : Names) (es : List Expr) → length (resolved_all s es) ≡ length es
all_long s [] = refl
all_long s (e ∷ es) = ap suc (all_long s es)

pub same_counts : (s : Names) (ws : List Wanted') (es : List Expr)
    → nat_eq (length (map wanted ws)) (length (resolved_all s es)) ≡ nat_eq (length ws) (length es)
same_counts s ws es = ap (λ n. nat_eq n (length (resolved_all s es))) (map_long wanted ws)
    ∙ ap (nat_eq (length ws)) (all_long s es)

pub call_refused : (at : ℕ) (ws : List Wanted) (t : CType) (make : nodes.Arguments → nodes.Node)
    (args : List Argument) → nat_eq (length ws) (length args) ≡ false
    → call_with at ws t make args ≡ bad (faults_of args ++ fault_at at ArgCount)
call_refused at ws t make args e = ap (λ b. given_that b at ArgCount (faults_of args)
    (called t make (pass_all ws args))) e

pub call_passed : (at : ℕ) (ws : List Wanted) (t : CType) (make : nodes.Arguments → nodes.Node)
    (args : List Argument) → nat_eq (length ws) (length args) ≡ true
    → call_with at ws t make args ≡ called t make (pass_all ws args)
call_passed at ws t make args e = ap (λ b. given_that b at ArgCount (faults_of args)
    (called t make (pass_all ws args))) e

-- ---- arguments so far, and what is still to be passed

pub onto : List nodes.Expression → nodes.Arguments → nodes.Arguments
onto [] rest = rest
onto (e ∷ es) rest = nodes.Next e (onto es rest)

pub joined : Option (List nodes.Expression) → Option nodes.Arguments → Option nodes.Arguments
joined (Some es) (Some rest) = Some (onto es rest)
joined es rest = None

onto_push : (es : List nodes.Expression) (e : nodes.Expression) (rest : nodes.Arguments)
    → onto es (nodes.Next e rest) ≡ onto (es ++ e ∷ []) rest
unfolding onto
onto_push [] e rest = refl
onto_push (x ∷ es) e rest = ap (nodes.Next x) (onto_push es e rest)

onto_done : (es : List nodes.Expression) → nodes.arguments es ≡ onto es nodes.Done
unfolding onto
onto_done [] = refl
onto_done (x ∷ es) = ap (nodes.Next x) (onto_done es)

join_step : (d : Option (List nodes.Expression)) (o : Option nodes.Expression)
    (r : Option nodes.Arguments) → joined d (put_before o r) ≡ joined (put_after d o) r
unfolding joined onto
join_step None o r = refl
join_step (Some es) None r = refl
join_step (Some es) (Some e) None = refl
join_step (Some es) (Some e) (Some r) = ap Some (onto_push es e r)

pub record StillToPass (s : Names) (w0 : Option FaultAt) (whole : Passed)
    (done : Option (List nodes.Expression)) (w : Option FaultAt) (ws : List Wanted')
    (es : List Expr) : Type 0 where
  pub found : whole.found ≡ joined done (pass_all (map wanted ws) (resolved_all s es)).found
  pub faults : kept w0 whole.faults ≡ kept w (pass_all (map wanted ws) (resolved_all s es)).faults

pub none_passed : (s : Names) (w0 : Option FaultAt) (ws : List Wanted') (es : List Expr)
    → StillToPass s w0 (pass_all (map wanted ws) (resolved_all s es)) (Some []) w0 ws es
unfolding joined onto
none_passed s w0 ws es = record {
  found = sym
      (first_joined (pass_all (map wanted ws) (resolved_all s es)).found);
  faults = refl;
}
  where
    first_joined : (o : Option nodes.Arguments) → joined (Some []) o ≡ o
    first_joined None = refl
    first_joined (Some r) = refl

pub pass_on : (s : Names) (w0 : Option FaultAt) (whole : Passed)
    (done : Option (List nodes.Expression)) (w w1 w2 : Option FaultAt) (x : Wanted') (e : Expr)
    (ws : List Wanted') (es : List Expr) (found : Option TypedNode) (one : Option nodes.Expression)
    → found ≡ (resolve_expression s (expression e)).found
    → w1 ≡ kept w (resolve_expression s (expression e)).faults
    → ((fs : List FaultAt) (rest : Passed) → put_before one rest.found
    ≡ (pass (wanted x) (start (expression e)) fs found rest).found)
    → ((first : Option FaultAt) (fs : List FaultAt) (rest : Passed) → w1 ≡ kept first fs
    → kept w2 rest.faults ≡ kept first (pass (wanted x) (start (expression e)) fs found
    rest).faults)
    → StillToPass s w0 whole done w (x ∷ ws) (e ∷ es)
    → StillToPass s w0 whole (put_after done one) w2 ws es
pass_on s w0 whole done w w1 w2 x e ws es found one is kept_first puts adds h =
    let j = resolve_expression s (expression e) in
    let rest = pass_all (map wanted ws) (resolved_all s es) in
    record {
      found = h.found ∙ ap (joined done) (ap (λ
          o. (pass (wanted x) (start (expression e)) j.faults o rest).found) (sym is)
          ∙ sym (puts j.faults rest)) ∙ join_step done one rest.found;
      faults = h.faults ∙ ap (λ o. kept w (pass (wanted x) (start (expression e)) j.faults o
          rest).faults) (sym is) ∙ sym (adds w j.faults rest kept_first);
    }

pub all_passed : (s : Names) (w0 : Option FaultAt) (whole : Passed)
    (done : Option (List nodes.Expression)) (w : Option FaultAt) (more : List Expr)
    → StillToPass s w0 whole done w [] more → (option_map nodes.arguments done ≡ whole.found)
    × (w ≡ kept w0 whole.faults)
unfolding joined onto
all_passed s w0 whole None w more h = (sym h.found, sym h.faults)
all_passed s w0 whole (Some es) w more h =
    (ap Some (onto_done es) ∙ sym h.found, sym h.faults)

-- the node of a call by its arguments, if they are good
pub called_for : {V : Type 0} (t : CType) (make : nodes.Arguments → nodes.Node)
    (f : V → nodes.Arguments) (r : Option V) (p : Passed) → option_map f r ≡ p.found
    → option_map (λ v. typed t (make (f v))) r ≡ (called t make p).found
called_for t make f None p h = ap (λ (o : Option nodes.Arguments). elim o
    [ Some es ↦ Some (typed t (make es)) | None ↦ None ]) h
called_for t make f (Some v) p h = ap (λ (o : Option nodes.Arguments). elim o
    [ Some es ↦ Some (typed t (make es)) | None ↦ None ]) h

-- ---- lists that are walked

-- the faults of one more argument are kept
pub faults_on : (s : Names) (so_far w w1 : Option FaultAt) (given : List Expr) (i : ℕ) (e : Expr)
    → i < length given → e ≡ get_or given i e
    → w1 ≡ kept w (resolve_expression s (expression e)).faults
    → so_far ≡ kept w (faults_of (resolved_all s (drop i given)))
    → so_far ≡ kept w1 (faults_of (resolved_all s (drop (i + 1) given)))
faults_on s so_far w w1 given i e lt is k h =
    let rest = faults_of (resolved_all s (drop (i + 1) given)) in
    h ∙ ap (λ l. kept w (faults_of (resolved_all s l))) (next_of given i e lt is)
    ∙ kept_append w (resolve_expression s (expression e)).faults rest
    ∙ ap (λ o. kept o rest) (sym k)

-- one more argument is passed
pub pass_next : (s : Names) (w0 : Option FaultAt) (whole : Passed)
    (done : Option (List nodes.Expression)) (w w1 w2 : Option FaultAt) (wants : List Wanted')
    (given : List Expr) (i : ℕ) (x : Wanted') (e : Expr) (found : Option TypedNode)
    (one : Option nodes.Expression)
    → i < length wants → x ≡ get_or wants i x → i < length given → e ≡ get_or given i e
    → found ≡ (resolve_expression s (expression e)).found
    → w1 ≡ kept w (resolve_expression s (expression e)).faults
    → ((fs : List FaultAt) (rest : Passed) → put_before one rest.found
    ≡ (pass (wanted x) (start (expression e)) fs found rest).found)
    → ((first : Option FaultAt) (fs : List FaultAt) (rest : Passed) → w1 ≡ kept first fs
    → kept w2 rest.faults ≡ kept first (pass (wanted x) (start (expression e)) fs found
    rest).faults)
    → StillToPass s w0 whole done w (drop i wants) (drop i given)
    → StillToPass s w0 whole (put_after done one) w2 (drop (i + 1) wants) (drop (i + 1) given)
pass_next s w0 whole done w w1 w2 wants given i x e found one lw xw lg xg is k puts adds h =
    pass_on s w0 whole done w w1 w2 x e (drop (i + 1) wants) (drop (i + 1) given) found one is k
    puts adds
    (subst (λ ws. StillToPass s w0 whole done w ws (e ∷ drop (i + 1) given))
    (next_of wants i x lw xw) (subst (λ es. StillToPass s w0 whole done w (drop i wants) es)
    (next_of given i e lg xg) h))

pub fused : {A B C : Type 0} (g : B → C) (f : A → B) (o : Option A)
    → option_map (λ x. g (f x)) o ≡ option_map g (option_map f o)
fused g f None = refl
fused g f (Some x) = refl

pub all_passed_at : (s : Names) (w0 : Option FaultAt) (whole : Passed)
    (done : Option (List nodes.Expression)) (w : Option FaultAt) (wants : List Wanted')
    (given : List Expr) (i : ℕ) → length wants ≤ i
    → StillToPass s w0 whole done w (drop i wants) (drop i given)
    → (option_map nodes.arguments done ≡ whole.found) × (w ≡ kept w0 whole.faults)
all_passed_at s w0 whole done w wants given i past h =
    all_passed s w0 whole done w (drop i given)
    (subst (λ k. StillToPass s w0 whole done w k (drop i given)) (drop_all i wants past) h)

pub pass_next_to : (s : Names) (w0 : Option FaultAt) (whole : Passed)
    (done done' : Option (List nodes.Expression)) (w w1 w2 : Option FaultAt) (wants : List Wanted')
    (given : List Expr) (i : ℕ) (x : Wanted') (e : Expr) (found : Option TypedNode)
    (one : Option nodes.Expression)
    → done' ≡ put_after done one → i < length wants → x ≡ get_or wants i x → i < length given
    → e ≡ get_or given i e
    → found ≡ (resolve_expression s (expression e)).found
    → w1 ≡ kept w (resolve_expression s (expression e)).faults
    → ((fs : List FaultAt) (rest : Passed) → put_before one rest.found
    ≡ (pass (wanted x) (start (expression e)) fs found rest).found)
    → ((first : Option FaultAt) (fs : List FaultAt) (rest : Passed) → w1 ≡ kept first fs
    → kept w2 rest.faults ≡ kept first (pass (wanted x) (start (expression e)) fs found
    rest).faults)
    → StillToPass s w0 whole done w (drop i wants) (drop i given)
    → StillToPass s w0 whole done' w2 (drop (i + 1) wants) (drop (i + 1) given)
pass_next_to s w0 whole done done' w w1 w2 wants given i x e found one ed lw xw lg xg is k puts adds
    h =
    subst (λ d. StillToPass s w0 whole d w2 (drop (i + 1) wants) (drop (i + 1) given)) (sym ed)
    (pass_next s w0 whole done w w1 w2 wants given i x e found one lw xw lg xg is k puts adds h)

-- ---- calls that have a meaning in some places alone

found_alone : (b : Bool) (at : ℕ) (f : Fault) (j : ResolvedExpression)
    → (allowed_call b at f j.faults j.found).found ≡ (only_where b at f j).found
found_alone true at f j = refl
found_alone false at f j = refl

faults_alone : (b : Bool) (at : ℕ) (f : Fault) (j : ResolvedExpression)
    → (allowed_call b at f j.faults j.found).faults ≡ (only_where b at f j).faults
faults_alone true at f j = refl
faults_alone false at f j = refl

pub allowed_found : (b : Bool) (at : ℕ) (f : Fault) (j : ResolvedExpression)
    (a r : Option TypedNode) → a ≡ j.found
    → ((fs : List FaultAt) → r ≡ (allowed_call b at f fs a).found) → r ≡ (only_where b at f j).found
allowed_found b at f j a r is finds = finds j.faults
    ∙ ap (λ o. (allowed_call b at f j.faults o).found) is ∙ found_alone b at f j

pub allowed_kept : (b : Bool) (at : ℕ) (f : Fault) (j : ResolvedExpression) (a : Option TypedNode)
    (first old new : Option FaultAt) → a ≡ j.found → old ≡ kept first j.faults
    → ((g : Option FaultAt) (fs : List FaultAt) → old ≡ kept g fs
    → new ≡ kept g (allowed_call b at f fs a).faults)
    → new ≡ kept first (only_where b at f j).faults
allowed_kept b at f j a first old new is so adds =
    adds first j.faults so ∙ ap (λ o. kept first (allowed_call b at f j.faults o).faults) is
    ∙ ap (kept first) (faults_alone b at f j)
