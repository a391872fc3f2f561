-- Longer runs show more.
use Rattle.std.proofs.Common.{◌≡◌, ℕ, zero, suc, ◌+◌, List, [], ◌++◌, ℤ, Option, Some, None, Result, Ok, Err, sym, ap, subst, ◌∙◌, arith, append_assoc}
use Rattle.std.proofs.lemmas.List.{append-nil}
use Rattle.seh_num.specs.declared.event.Event.{Event}
use Rattle.seh_num.specs.declared.end.RunEnd.{RunEnd}
use Rattle.seh_num.specs.Shown.{Shown}
use Rattle.pe_image.specs.declared.refusal.ImageErr.{ImageErr}
use Rattle.pe_image.specs.Image.{Image}
use Rattle.pe_image.specs.Reading.{reading}
use Rattle.virtual_unwind.specs.CallerOf.{Functions}
use Rattle.host_model.specs.declared.funclet.Funclet.{Funclet}
use Rattle.host_model.specs.Turns.{shown_in}
use Rattle.host_model.specs.HostStep.{Host, Live, Ended, host, turn, after}
use Rattle.host_model.specs.Loading.{start}
use Rattle.host_model.specs.Funclets.{funclets}
use Rattle.host_model.specs.Machine.{or_turn, run, functions_in, machine_of, machine}
use Rattle.host_model.specs.Laws.{Covers, IsShownFirst, RunsShowWhatWasShown, MoreTurnsCover, ImagesCover, CoveringIsTransitive}

pub covers_self : (x : Shown RunEnd) → Covers x.events x.end x
covers_self x = record {
  shows = ([], sym (append-nil x.events));
  ends = λ e h. ap (λ (o : Option RunEnd). let y : Shown
      RunEnd = record { events = x.events; end = o } in y) h;
}

-- a run shows what was shown before
begins_or : (f : Functions) (fs : List Funclet) (k : ℕ) (out : List Event) (h : Host)
    → ((g : Host) (ev : List Event) → IsShownFirst ev (run f fs k g ev))
    → IsShownFirst out (or_turn f fs (run f fs k) out h)
begins_or f fs k out (Ended e) rest = ([], sym (append-nil out))
begins_or f fs k out (Live s) rest =
    let ev = shown_in (turn f fs s) in
    let b = rest (after (turn f fs s)) (out ++ ev) in
    (ev ++ b.0, b.1 ∙ append_assoc out ev b.0)

pub begins : RunsShowWhatWasShown
unfolding run
begins f fs zero h out = ([], sym (append-nil out))
begins f fs (suc k) h out = begins_or f fs k out h (λ g ev. begins f fs k g ev)

pub none_yet : (out : List Event) (x : Shown RunEnd) → IsShownFirst out x → Covers out None x
none_yet out x b = record { shows = b; ends = λ e h. absurd cc }

longer_or : (f : Functions) (fs : List Funclet) (k j : ℕ) (out : List Event) (h : Host)
    → ((g : Host) (ev : List Event) → Covers (run f fs k g ev).events (run f fs k g ev).end
    (run f fs (k + j) g ev)) → Covers (or_turn f fs (run f fs k) out h).events
    (or_turn f fs (run f fs k) out h).end (or_turn f fs (run f fs (k + j)) out h)
longer_or f fs k j out (Ended e) rest = covers_self (record { events = out; end = Some e })
longer_or f fs k j out (Live s) rest = rest (after (turn f fs s)) (out ++ shown_in (turn f fs s))

ended_or : (f : Functions) (fs : List Funclet) (j : ℕ) (out : List Event) (h : Host)
    → Covers (run f fs 0 h out).events (run f fs 0 h out).end (or_turn f fs (run f fs j) out h)
unfolding run
ended_or f fs j out (Ended e) = covers_self (record { events = out; end = Some e })
ended_or f fs j out (Live s) = none_yet out (or_turn f fs (run f fs j) out (Live s))
    (begins_or f fs j out (Live s) (λ g ev. begins f fs j g ev))

pub longer : MoreTurnsCover
unfolding run
longer f fs zero zero h out = covers_self (run f fs zero h out)
longer f fs zero (suc j) h out =
    let e : 0 + suc j ≡ suc j = omega arith in
    subst (λ n. Covers (run f fs 0 h out).events (run f fs 0 h out).end (run f fs n h out)) (sym e)
    (ended_or f fs j out h)
longer f fs (suc k) j h out =
    let e : suc k + j ≡ suc (k + j) = omega arith in
    subst (λ n. Covers (run f fs (suc k) h out).events (run f fs (suc k) h out).end
    (run f fs n h out)) (sym e) (longer_or f fs k j out h (λ g ev. longer f fs k j g ev))

pub covers_then : CoveringIsTransitive
covers_then ev end y z a b = record {
  shows = (
    a.shows.0 ++ b.shows.0,
    b.shows.1 ∙ ap (λ (t : List Event). t ++ b.shows.0) a.shows.1
        ∙ append_assoc ev a.shows.0 b.shows.0,
  );
  ends = λ e h. let same = a.ends e h in b.ends e (ap (λ (w : Shown RunEnd). w.end) same)
      ∙ ap (λ (w : Shown RunEnd). let v : Shown
      RunEnd = record { events = w.events; end = Some e } in v) same;
}

-- ---- images

of_reading : (read : Result Image ImageErr) (arg : ℤ) (k j : ℕ)
    → Covers (machine_of read arg k).events (machine_of read arg k).end
    (machine_of read arg (k + j))
of_reading (Ok image) arg k j = let f = functions_in image in
    longer f (funclets f.entries) k j (host (start image arg)) []
of_reading (Err e) arg k j = covers_self (record { events = []; end = None })

pub images_cover : ImagesCover
unfolding machine
images_cover bytes arg k j = of_reading (reading bytes) arg k j
