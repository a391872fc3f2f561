use Rattle.std.proofs.Common.{◌≡◌, ℕ, ◌+◌, List, ◌++◌, sym, subst, ap, ◌∙◌, arith}
use Rattle.image_link.specs.Words.{spelled, AreNear, Addresses, links_of, PlaceView, place_at, RoutineView, SiteView, entry_size, addresses, check_stack_at, thunks_at, code_at, routine_bytes, apart_bytes, code_from, cold_code}
use Rattle.std.proofs.Common.{Result, Ok, Err}
use Rattle.std.specs.Prelude.{OnOk}
use Rattle.image_link.proofs.Lemmas.{on_ok}
use Rattle.image_link.proofs.Entries.{entry_small, routine_small, labels_near}
use Rattle.image_link.proofs.text.put_routine.Goals as goal

pub links_of-links-requires-clause-labels : goal.links_of-links-requires-clause-labels
links_of-links-requires-clause-labels c =
    let r = c.args.routine.now in
    let s = entry_small r c.requires.near in
    let room = c.requires.room in
    let placed = c.place.view_is ∙ c.requires.placed in
    let cold = c.requires.cold in
    subst AreNear (sym (c.deref.ensures.value ∙ ap (λ (p : PlaceView). p.labels) placed))
    (labels_near r.layout r.body.cold 0 (c.args.begin + entry_size r) c.args.place.now.cold
    r.body.code c.requires.near.code (omega arith) (omega arith))

pub links_of-links-requires-clause-end : goal.links_of-links-requires-clause-end
links_of-links-requires-clause-end c =
    let s = routine_small c.args.routine.now c.requires.near in
    let room = c.requires.room in
    let e = ap (λ (p : PlaceView). p.end) (c.place.view_is ∙ c.requires.placed) in
    omega arith

pub put_code-requires-clause-start : goal.put_code-requires-clause-start
put_code-requires-clause-start c =
    ap (λ (p : PlaceView). p.body) (c.place.view_is ∙ c.requires.placed)

pub put_code-requires-clause-room : goal.put_code-requires-clause-room
put_code-requires-clause-room c =
    let s = entry_small c.args.routine.now c.requires.near in
    let room = c.requires.room in
    let e = ap (λ (p : PlaceView). p.body) (c.place.view_is ∙ c.requires.placed) in
    omega arith

pub put_apart-requires-clause-room : goal.put_apart-requires-clause-room
put_apart-requires-clause-room c =
    let e = ap (λ (p : PlaceView). p.cold) c.place.view_is in
    let room = c.requires.cold in
    omega arith

-- what a routine refers to, by what its place says
links_are : (s t : SiteView) (at : ℕ) (r : RoutineView) (p q : PlaceView) (labels : List ℕ)
    (a : Addresses) → s ≡ t → p ≡ place_at at q.cold r → labels ≡ p.labels → a
    ≡ record {
      labels = labels;
      end = p.end;
      functions = s.functions;
      funclets = s.funclets;
      thunks = thunks_at s.imports s.text s.blocks;
    } → a ≡ addresses t at q.cold r
links_are s t at r p q labels a site placed same e =
    e ∙ (λ i. record {
      labels = (same ∙ ap (λ (p : PlaceView). p.labels) placed) i;
      end = (placed i).end;
      functions = (site i).functions;
      funclets = (site i).funclets;
      thunks = thunks_at (site i).imports (site i).text (site i).blocks;
    })

if_any : {A E : Type 0} (P : Type 0) (r : Result A E) → P → OnOk r P
if_any P (Ok x) p = p
if_any P (Err e) p = tt

pub returns-clause-code : goal.returns-clause-code
unfolding routine_bytes
returns-clause-code c =
    let r = c.args.routine.now in
    let begin = c.args.begin in
    let cold = c.args.place.now.cold in
    let old = c.args.code.now.items in
    let links = links_are _ c.args.site.now begin r _ c.args.place.now c.deref.result.now
    c.links_of-links.result c.site.view_is (c.place.view_is ∙ c.requires.placed)
    c.deref.ensures.value c.links_of-links.ensures in
    if_any _ c.put_apart.result (c.in_ok-put_code.ensures
    ∙ ap (λ (a : Addresses). old ++ spelled (code_at
    (check_stack_at c.site.inside.imports.now c.site.inside.text) (links_of a) begin r)) links
    ∙ ap (λ (s : SiteView). old ++ spelled (code_at (check_stack_at s.imports s.text)
    (links_of (addresses c.args.site.now begin cold r)) begin r)) c.site.view_is)

pub returns-clause-apart : goal.returns-clause-apart
unfolding apart_bytes
returns-clause-apart c =
    let r = c.args.routine.now in
    let begin = c.args.begin in
    let old = c.args.apart.now.items in
    let links = links_are _ c.args.site.now begin r _ c.args.place.now c.deref.result.now
    c.links_of-links.result c.site.view_is (c.place.view_is ∙ c.requires.placed)
    c.deref.ensures.value c.links_of-links.ensures in
    let cold = ap (λ (p : PlaceView). p.cold) c.place.view_is in
    on_ok _ _ c.put_apart.result (λ e. e ∙ (λ j. old ++ spelled
    (code_from (links_of (links j)) r.layout (cold j) (cold_code r.body)))) c.put_apart.ensures
