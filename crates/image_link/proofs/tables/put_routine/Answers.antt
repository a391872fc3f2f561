use Rattle.std.proofs.Common.{◌≡◌, ℕ, ◌+◌, List, ◌++◌, length, ap, ◌∙◌, arith}
use Rattle.image_link.specs.Words.{RoutineView, PlaceView, own_addresses, info_if, info_bytes, range_if, fragments_if}
use Rattle.image_link.proofs.Lemmas.{on_ok}
use Rattle.image_link.proofs.tables.put_routine.Goals as goal

pub returns-clause-infos : goal.returns-clause-infos
unfolding info_bytes
returns-clause-infos c =
    let r = c.args.routine.now in
    let s = c.args.site.now in
    let old = c.args.xdata.now.items in
    let placed = c.place.view_is ∙ c.requires.placed in
    let cold = c.args.place.now.cold in
    on_ok _ _ c.put_tables.result (λ e. e
    ∙ ap (λ (q : RoutineView). old ++ info_if s c.place.inside.labels.starts.items
    c.place.inside.labels.end r q.frame) c.routine.view_is
    ∙ ap (λ (ls : List ℕ). old ++ info_if s ls c.place.inside.labels.end r r.frame)
    (ap (λ (p : PlaceView). p.labels) placed)
    ∙ ap (λ (n : ℕ). old ++ info_if s (own_addresses c.args.begin cold r).labels n r r.frame)
    (ap (λ (p : PlaceView). p.end) placed)) c.put_tables.ensures.infos

pub returns-clause-ranges : goal.returns-clause-ranges
returns-clause-ranges c =
    let r = c.args.routine.now in
    let at = c.args.begin in
    let old = c.args.ranges.now.items in
    let placed = c.place.view_is ∙ c.requires.placed in
    let frame = ap (λ (q : RoutineView). q.frame) c.routine.view_is in
    let end = ap (λ (p : PlaceView). p.end) placed in
    let info : c.args.xdata_at + c.len.result ≡ c.args.xdata_at + length c.args.xdata.now.items =
    (let e = c.len.ensures in omega arith) in
    on_ok _ _ c.put_tables.result (λ e. e ∙ (λ i. old ++ range_if (frame i)
    (record { begin = at; end = end i; unwind_info = info i }))) c.put_tables.ensures.ranges

pub returns-clause-fragments : goal.returns-clause-fragments
returns-clause-fragments c =
    let r = c.args.routine.now in
    let at = c.args.begin in
    let old = c.args.fragments.now.items in
    let placed = c.place.view_is ∙ c.requires.placed in
    let frame = ap (λ (q : RoutineView). q.frame) c.routine.view_is in
    let end = ap (λ (p : PlaceView). p.end) placed in
    let parts = ap (λ (p : PlaceView). p.parts) placed in
    let info : c.args.xdata_at + c.len.result ≡ c.args.xdata_at + length c.args.xdata.now.items =
    (let e = c.len.ensures in omega arith) in
    on_ok _ _ c.put_tables.result (λ e. e ∙ (λ i. old ++ fragments_if (frame i)
    (record { begin = at; end = end i; unwind_info = info i }) (parts i)))
    c.put_tables.ensures.fragments
